-- Tables whose flow groups are on the first cores, along the entries of an epoch.
use Rattle.std.proofs.Common.{◌≡◌, ◌<◌, ◌≤◌, ◌+◌, ◌==◌, ℕ, Bool, true, false, List, [], ◌∷◌, ◌++◌, map, sym, subst, arith}
use Rattle.std.proofs.Math.Nat.{mod-lt}
use Rattle.std.specs.Prelude.{if◌then◌else◌, ◌%◌}
use Rattle.std.specs.List.{AllByRecursion}
use Rattle.std.proofs.lemmas.List.Elements.{recursion_from_All}
use Rattle.ix_lines.specs.declared.types.EntryLine.{EntryLine}
use Rattle.ix_nic.specs.Cards.{CardView}
use Rattle.ix_nic.specs.Entries.{turned_by}
use Rattle.ix_nic.specs.Words.{seats}
use Rattle.ix_order.specs.Wire.{Entry as Word, NameCores, NamesCore, Seat, Table, frame, move, settle, tag, time, turned}
use Rattle.ix_reta.specs.Table.{Table as Turns}
use Rattle.ix_steer.specs.Steering.{group_of_frame}
use Rattle.ix_wire.specs.declared.entry.Entry.{Entry}
use Rattle.ix_wire.specs.declared.entry.Entry.TheVariants as wire
use Rattle.ix_wire.specs.Entries.{IsThere, IsWire, Terms}
use Rattle.ix_feed.specs.Feeding.{Calls, Feeds, entry_of}
use Rattle.ix_feed.specs.Replays.{FeedView, left_of}
use Rattle.ix_feed.specs.Turns.{FeedBecame}
use Rattle.ix_fed.specs.Fed.{MovesWithin}
use Rattle.ix_fits.specs.Card.{opening_table}
use Rattle.ix_fits.specs.Card as fits
use Rattle.ix_settled.specs.Moments.{AtSettle, Moment, Opening, Settled}
use Rattle.ix_course.specs.Course.{IsAt, PlayCore}
use Rattle.ix_slots.specs.Slots.{HasRing}
use Rattle.ix_pools.specs.Rings.{AreSeated, EpochsKeepSeats, EpochsStayWithin, IsWithin, KeepsSeats}

-- ## Tables
-- each flow group is on one of the first n cores
abbrev IsSeated : ℕ → Table → Type 0
IsSeated n t = (g : ℕ) → (t g).core < n

turned-seated : (n : ℕ) (t : Table) (e : Word) → NamesCore n e → IsSeated n t → IsSeated n (turned t e)
turned-seated n t (move h c) named seated g = by (g == h) where
  by : (b : Bool) → (if b then (let s : Seat = record { core = c; tenure = (t h).tenure + 1 } in s) else t g).core < n
  by true = named
  by false = seated g
turned-seated n t (frame h v) named seated g = seated g
turned-seated n t time named seated g = seated g
turned-seated n t (tag h) named seated g = seated g
turned-seated n t settle named seated g = seated g

turned-by-seated : (n : ℕ) (t : Table) (es : List Word) → NameCores n es → IsSeated n t → IsSeated n (turned_by t es)
turned-by-seated n t [] named seated = seated
turned-by-seated n t (e ∷ es) named seated = turned-by-seated n (turned t e) es named.1 (turned-seated n t e named.0 seated)

opening-seated : (live n : ℕ) → 1 ≤ live → live ≤ n → IsSeated n (opening_table live)
opening-seated live n some few g = let lt : g % 128 % live < live = mod-lt (g % 128) (omega (arith, some)) in omega (arith, lt, few)

-- ## One entry
one-ring : (n : ℕ) (frames : List (List ℕ)) (w clock : ℕ) (e : Entry) (l : EntryLine) (old new : CardView) → Calls frames w clock e l old new → AreSeated n old → HasRing n l
one-ring n frames w clock (wire.Frame rec) l old new c seated = subst (λ (x : EntryLine). HasRing n x) (sym c.line_is) (seated (group_of_frame c.bytes))
one-ring n frames w clock (wire.Time t) l old new c seated = subst (λ (x : EntryLine). HasRing n x) (sym c.line_is) tt
one-ring n frames w clock (wire.Tag g) l old new c seated = subst (λ (x : EntryLine). HasRing n x) (sym c.line_is) tt
one-ring n frames w clock (wire.Move g to) l old new c seated = subst (λ (x : EntryLine). HasRing n x) (sym c.line_is) tt
one-ring n frames w clock wire.Settle l old new c seated = subst (λ (x : EntryLine). HasRing n x) (sym c.line_is) tt

one-named : (n : ℕ) (frames : List (List ℕ)) (w clock : ℕ) (e : Entry) (l : EntryLine) (old new : CardView) → Calls frames w clock e l old new → MovesWithin n e → NamesCore n (entry_of l)
one-named n frames w clock (wire.Frame rec) l old new c moves = subst (λ (x : EntryLine). NamesCore n (entry_of x)) (sym c.line_is) tt
one-named n frames w clock (wire.Time t) l old new c moves = subst (λ (x : EntryLine). NamesCore n (entry_of x)) (sym c.line_is) tt
one-named n frames w clock (wire.Tag g) l old new c moves = subst (λ (x : EntryLine). NamesCore n (entry_of x)) (sym c.line_is) tt
one-named n frames w clock (wire.Move g to) l old new c moves = subst (λ (x : EntryLine). NamesCore n (entry_of x)) (sym c.line_is) moves
one-named n frames w clock wire.Settle l old new c moves = subst (λ (x : EntryLine). NamesCore n (entry_of x)) (sym c.line_is) tt

same-seats : (n : ℕ) (old new : CardView) → new.table ≡ old.table → AreSeated n old → AreSeated n new
same-seats n old new same seated g = subst (λ (t : Turns). (seats t g).core < n) (sym same) (seated g)

-- ## Many entries
fed-within : (n : ℕ) (frames : List (List ℕ)) (w clock : ℕ) (es : List Entry) (ls : List EntryLine) (x y : CardView) → Feeds frames w clock es ls x y → AreSeated n x → AllByRecursion (MovesWithin n) es → KeepsSeats n ls y
fed-within n frames w clock [] [] x y f seated moves = record { rings = tt; seated = same-seats n x y f.table seated }
fed-within n frames w clock [] (l ∷ ls) x y f seated moves = absurd f
fed-within n frames w clock (e ∷ es) [] x y f seated moves = absurd f
fed-within n frames w clock (e ∷ es) (l ∷ ls) x y f seated moves =
    let before : AreSeated n f.1.0.before = same-seats n x f.1.0.before f.1.0.stays.table seated in
    let named : NamesCore n (entry_of l) = one-named n _ _ _ e l _ _ f.1.0.carried.call moves.0 in
    let behind : AreSeated n f.0 = λ g. subst (λ (s : Seat). s.core < n) (sym (f.1.0.carried.entry.table g)) (turned-seated n (seats f.1.0.before.table) (entry_of l) named before g) in
    let rest : KeepsSeats n ls y = fed-within n _ _ _ es ls _ _ f.1.1 behind moves.1 in
    record { rings = (one-ring n _ _ _ e l _ _ f.1.0.carried.call before, rest.rings); seated = rest.seated }

pub epochs-keep-seats : EpochsKeepSeats
epochs-keep-seats n x y b seated moves = fed-within n _ _ _ b.carried b.told x.card y.card b.fed seated moves

-- ## A play
front-by : {X : Type 0} (P : X → Type 0) (xs ys : List X) → AllByRecursion P (xs ++ ys) → AllByRecursion P xs
front-by P [] ys h = tt
front-by P (x ∷ xs) ys h = (h.0, front-by P xs ys h.1)

end-by : {X : Type 0} (P : X → Type 0) (xs ys : List X) → AllByRecursion P (xs ++ ys) → AllByRecursion P ys
end-by P [] ys h = h
end-by P (x ∷ xs) ys h = end-by P xs ys h.1

there-within : (terms : Terms) (n : ℕ) (e : Entry) → terms.cores ≡ n → IsThere terms e → MovesWithin n e
there-within terms n (wire.Frame rec) same there = tt
there-within terms n (wire.Time t) same there = tt
there-within terms n (wire.Tag g) same there = tt
there-within terms n (wire.Move g to) same there = subst (λ (k : ℕ). to.0 < k) same there.1
there-within terms n wire.Settle same there = tt

all-within : (terms : Terms) (n : ℕ) (es : List Entry) → terms.cores ≡ n → AllByRecursion (IsThere terms) es → AllByRecursion (MovesWithin n) es
all-within terms n [] same there = tt
all-within terms n (e ∷ es) same there = (there-within terms n e same there.0, all-within terms n es same there.1)

-- what a chain of settles says of the last of them
last-settle : (p : Opening) (m : Moment) (ms : List Moment) → Settled p (m ∷ ms) → AtSettle p m
last-settle p m [] h = h.settle
last-settle p m (before ∷ ms) h = h.0

module _ (terms : Terms) (p : Opening) (x y : FeedView) (cores : List PlayCore) (m : Moment) (ms : List Moment) (wires : IsWire terms x.replay.entries) (as_many : terms.cores ≡ p.cores) (some : 1 ≤ p.live)
    (few : p.live ≤ p.cores) (at : IsAt p x cores m ms) (b : FeedBecame x y) where
  all-moves : AllByRecursion (MovesWithin p.cores) x.replay.entries
  all-moves = all-within terms p.cores x.replay.entries as_many (recursion_from_All (IsThere terms) x.replay.entries wires.so_far.there)

  left-moves : AllByRecursion (MovesWithin p.cores) (left_of x.replay)
  left-moves = end-by (MovesWithin p.cores) at.before (left_of x.replay) (subst (λ (es : List Entry). AllByRecursion (MovesWithin p.cores) es) at.split all-moves)

  moves-within : AllByRecursion (MovesWithin p.cores) b.carried
  moves-within = front-by (MovesWithin p.cores) b.carried (left_of y.replay) (subst (λ (es : List Entry). AllByRecursion (MovesWithin p.cores) es) b.left left-moves)

  seated : AreSeated p.cores x.card
  seated g =
      subst (λ (s : Seat). s.core < p.cores) (sym (at.table g))
      (turned-by-seated p.cores (opening_table p.live) (map fits.entry_of m.done) (last-settle p m ms at.settled).played.names (opening-seated p.live p.cores some few) g)

  play-within : IsWithin p.cores b.carried b.told
  play-within = record { moves = moves-within; rings = (epochs-keep-seats p.cores x y b seated moves-within).rings }

pub epochs-within : EpochsStayWithin
epochs-within terms p x y cores m ms wires as_many some few at b = play-within terms p x y cores m ms wires as_many some few at b
