-- What an epoch makes of what is held.
use Rattle.std.proofs.Common.{◌≡◌, ◌+◌, ◌*◌, ◌<◌, ◌≤◌, ℕ, zero, suc, Bool, List, [], ◌∷◌, ◌++◌, length, length-append, get_or, sum_by, refl, sym, ap, subst, arith}
use Rattle.std.specs.Prelude.{count_by}
use Rattle.std.proofs.Math.Nat.{suc-mul}
use Rattle.std.proofs.lemmas.List.Sums.{sum_by-append, sum_by-cons}
use Rattle.ix_base.specs.declared.id.BufId.{BufId}
use Rattle.ix_mbuf.specs.declared.name.Name.{Name}
use Rattle.ix_mbuf.specs.Buffers.{Buffer, buffers_weight, next_use}
use Rattle.ix_mbuf.specs.Owners.{one_if, same_id, times, weigh}
use Rattle.ix_lines.specs.declared.types.EntryLine.{EntryLine}
use Rattle.ix_ring.specs.Ends.{known, taken}
use Rattle.ix_stack.specs.Items.{items_weight}
use Rattle.ix_stack.specs.declared.work.Work.{Work}
use Rattle.ix_nic.specs.Ports.{PortView, whole}
use Rattle.ix_core.specs.Renewing.{posted_weight}
use Rattle.ix_feed.specs.Told.{BuffersAreFilled, RingUsed, used_on}
use Rattle.ix_epochs.specs.Weights.{EpochsConserve, posts_weight}
use Rattle.ix_homes.specs.Held.{EpochsFill, kept_weight}
use Rattle.ix_homes.proofs.Sums.{sums-split, weigh-map}

-- ## All rings
abbrev items_on : (Name → ℕ) → PortView → ℕ
items_on f p = items_weight f (whole p)

abbrev taken_from : (Name → ℕ) → PortView → ℕ
taken_from f p = buffers_weight f (taken p.posts)

-- what the rings from this number on took and gave
record PortsUsed (r : ℕ) (told : List EntryLine) (ps qs : List PortView) : Type 0 where
  fills : List Name
  few : length fills ≤ length ps * length told
  among : (k : ℕ) (i : BufId) → k < length ps → count_by (same_id i) (used_on (r + k) told) ≤ times i fills
  weight : (f : Name → ℕ) → (sum_by (items_on f) qs + sum_by (kept_weight f) qs) + (weigh f fills + sum_by (taken_from f) ps)
      ≡ (sum_by (items_on f) ps + sum_by (kept_weight f) ps) + (weigh (λ x. f (next_use x)) fills + sum_by (taken_from f) qs)

first-used : (r : ℕ) (told : List EntryLine) (p q : PortView) → RingUsed (used_on (r + 0) told) (length told) p q → RingUsed (used_on r told) (length told) p q
first-used r told p q u = subst (λ n. RingUsed (used_on n told) (length told) p q) (omega arith) u

used-count : (a b t n : ℕ) (p : PortView) (ps : List PortView) → a ≤ t → b ≤ length ps * t → n ≡ a + b → n ≤ length (p ∷ ps) * t
used-count a b t n p ps one rest is = omega (arith, one, rest, is, suc-mul (length ps) t)

ring-weight : (f : Name → ℕ) (r : ℕ) (told : List EntryLine) (p q : PortView) → (u : RingUsed (used_on r told) (length told) p q)
    → (items_on f q + kept_weight f q) + (weigh f u.fills + taken_from f p) ≡ (items_on f p + kept_weight f p) + (weigh (λ x. f (next_use x)) u.fills + taken_from f q)
ring-weight f r told p q u =
    omega (
      arith,
      u.weight f,
      weigh-map f next_use u.fills,
      ap (buffers_weight f) u.took,
      sum_by-append (λ (b : Buffer). f b.name) (taken p.posts) u.bufs,
    )

ports-used : (r : ℕ) (told : List EntryLine) (ps qs : List PortView) → length qs ≡ length ps
    → ((k : ℕ) (d : PortView) → k < length ps → RingUsed (used_on (r + k) told) (length told) (get_or ps k d) (get_or qs k d)) → PortsUsed r told ps qs
ports-used r told [] [] len each = record { fills = []; few = omega arith; among = λ k i lt. absurd (omega (arith, lt)); weight = λ f. refl }
ports-used r told [] (q ∷ qs) len each = absurd (omega (arith, len))
ports-used r told (p ∷ ps) [] len each = absurd (omega (arith, len))
ports-used r told (p ∷ ps) (q ∷ qs) len each =
    let one : RingUsed (used_on r told) (length told) p q = first-used r told p q (each 0 p (omega arith)) in
    let rest : PortsUsed (suc r) told ps qs = ports-used (suc r) told ps qs (omega (arith, len))
    (λ k d lt. subst (λ n. RingUsed (used_on n told) (length told) (get_or ps k d) (get_or qs k d)) {y = suc r + k} (omega arith) (each (suc k) d (omega (arith, lt)))) in
    record {
      fills = one.fills ++ rest.fills;
      few = used-count (length one.fills) (length rest.fills) (length told) (length (one.fills ++ rest.fills)) p ps one.few rest.few (length-append one.fills rest.fills);
      among = λ k i lt. among-all k i lt one rest;
      weight = λ f.
          omega (
            arith,
            ring-weight f r told p q one,
            rest.weight f,
            sum_by-append f one.fills rest.fills,
            sum_by-append (λ x. f (next_use x)) one.fills rest.fills,
            sum_by-cons (items_on f) p ps,
            sum_by-cons (items_on f) q qs,
            sum_by-cons (kept_weight f) p ps,
            sum_by-cons (kept_weight f) q qs,
            sum_by-cons (taken_from f) p ps,
            sum_by-cons (taken_from f) q qs,
          );
    } where
      among-all : (k : ℕ) (i : BufId) → k < length (p ∷ ps) → (one : RingUsed (used_on r told) (length told) p q) (rest : PortsUsed (suc r) told ps qs) → count_by (same_id i) (used_on (r + k) told) ≤ times i (one.fills ++ rest.fills)
      among-all zero i lt one rest =
          omega (arith, subst (λ n. count_by (same_id i) (used_on n told) ≤ times i one.fills) {y = r + 0} (omega arith) (one.among i), sum_by-append (one_if i) one.fills rest.fills)
      among-all (suc k) i lt one rest =
          omega (
            arith,
            subst (λ n. count_by (same_id i) (used_on n told) ≤ times i rest.fills) {y = r + suc k} (omega arith) (rest.among k i (omega (arith, lt))),
            sum_by-append (one_if i) one.fills rest.fills,
          )

-- ## What was posted
posts-split : (f : Name → ℕ) (ps : List PortView) → posts_weight f ps ≡ sum_by (taken_from f) ps + sum_by (posted_weight f) ps
posts-split f ps =
    sums-split (λ (p : PortView). buffers_weight f (taken p.posts ++ known p.posts)) (taken_from f) (posted_weight f) ps
    (λ k d lt. sum_by-append (λ (b : Buffer). f b.name) (taken (get_or ps k d).posts) (known (get_or ps k d).posts))

module _ {U E : Type 0} (counted : Work → Bool) (name : Work → ℕ) (stepped : U → List (ℕ × ℕ)) (advanced : U → E → ℕ → List Work → U → Type 0) (drained : U → List Buffer → U → Type 0) (weight : (Name → ℕ) → U → ℕ) where
  pub epochs-fill : EpochsConserve {U = U} {E = E} counted name stepped advanced drained weight → BuffersAreFilled → EpochsFill U E counted name stepped advanced drained weight
  epochs-fill conserve used env feed feed' cores cores' whole_ ready ran =
      let all : PortsUsed 0 ran.feed.told feed.card.ports feed'.card.ports = ports-used 0 ran.feed.told feed.card.ports feed'.card.ports ran.feed.rings.count
      (λ k d lt. subst (λ n. RingUsed (used_on n ran.feed.told) (length ran.feed.told) (get_or feed.card.ports k d) (get_or feed'.card.ports k d)) (omega arith) (used feed feed' ran.feed k d lt)) in
      let kept = conserve env feed feed' cores cores' whole_ ready ran in
      record {
        fills = all.fills;
        filled = record {
          weight = λ f. omega (arith, all.weight f, kept.1 f, posts-split f feed.card.ports, posts-split f feed'.card.ports);
        };
        few = subst (λ n. length all.fills ≤ n * length ran.feed.told) ready.order.count all.few;
        among = λ r i lt.
            subst (λ n. count_by (same_id i) (used_on n ran.feed.told) ≤ times i all.fills) (omega arith) (all.among r i (subst (λ n. r < n) (sym ready.order.count) lt));
      }
