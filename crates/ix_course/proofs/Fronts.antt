-- What holds of a wire list so far holds of its front.
use Rattle.std.proofs.Common.{◌≤◌, ℕ, Bool, List, [], ◌∷◌, ◌++◌, length-append, arith}
use Rattle.std.specs.Prelude.{All, count_by, if◌then◌else◌}
use Rattle.std.specs.List.{AllByRecursion}
use Rattle.std.proofs.lemmas.List.Elements.{All-from_recursion, recursion_from_All}
use Rattle.std.proofs.lemmas.List.Sums.{sum_by-append}
use Rattle.ix_wire.specs.declared.entry.Entry.{Entry}
use Rattle.ix_wire.specs.Entries.{EachAllowed, IsThere, IsWireSoFar, Terms, is_frame, is_turn}

front-by : {X : Type 0} (P : X → Type 0) (xs ys : List X) → AllByRecursion P (xs ++ ys) → AllByRecursion P xs
front-by P [] ys h = tt
front-by P (x ∷ xs) ys h = (h.0, front-by P xs ys h.1)

all-front : {X : Type 0} (P : X → Type 0) (xs ys : List X) → All P (xs ++ ys) → All P xs
all-front P xs ys h = All-from_recursion P xs (front-by P xs ys (recursion_from_All P (xs ++ ys) h))

allowed-front : {S : Type 0} (allowed : S → Entry → Bool) (next : S → Entry → S) (s : S) (es fs : List Entry) → EachAllowed allowed next s (es ++ fs) → EachAllowed allowed next s es
allowed-front allowed next s [] fs h = tt
allowed-front allowed next s (e ∷ es) fs h = (h.0, allowed-front allowed next (next s e) es fs h.1)

count-front : (p : Entry → Bool) (es fs : List Entry) (n : ℕ) → count_by p (es ++ fs) ≤ n → count_by p es ≤ n
count-front p es fs n le = omega (arith, le, sum_by-append (λ (e : Entry). if p e then 1 else 0) es fs)

pub so-far-front : (x : Terms) (es fs : List Entry) → IsWireSoFar x (es ++ fs) → IsWireSoFar x es
so-far-front x es fs h = record {
  there = all-front (IsThere x) es fs h.there;
  alternate = λ g lt. allowed-front _ _ _ es fs (h.alternate g lt);
  elsewhere = allowed-front _ _ _ es fs h.elsewhere;
  times = allowed-front _ _ _ es fs h.times;
  paced = λ lt. allowed-front _ _ _ es fs (h.paced lt);
  controls = allowed-front _ _ _ es fs h.controls;
  frames = count-front is_frame es fs 262144 h.frames;
  turns = count-front is_turn es fs 16777216 h.turns;
  count = omega (arith, h.count, length-append es fs);
}
