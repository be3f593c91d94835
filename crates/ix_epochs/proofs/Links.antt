-- The links of all cores, pair by pair.
use Rattle.std.proofs.Common.{◌≡◌, ◌<◌, ◌≤◌, ◌+◌, ◌-◌, ◌⊎◌, ◌++◌, inl, inr, ℕ, List, [], length, get_or, ap, subst, ◌∙◌, arith, append-nil, length-append}
use Rattle.std.proofs.lemmas.Bool.{cases_lt}
use Rattle.ix_ring.specs.Views.{PutView, TakeView}
use Rattle.ix_ring.specs.Ends.{known, put_list, taken}
use Rattle.ix_core.specs.declared.link.Link.{Link}
use Rattle.ix_core.specs.declared.turning.Core.{Core}
use Rattle.ix_core.specs.Meeting.{AreTold, link_at}
use Rattle.ix_epochs.proofs.Places.{none_long}

-- what was put was taken, so nothing is known
pub none_known : {T : Type 0} (p : PutView T) (t : TakeView T) → AreTold p t → put_list p ≡ taken t → known t ≡ []
none_known p t told all = none_long (known t) (omega (arith, ap length all, ap length told.whole, length-append (taken t) (known t)))

-- nothing is known, so what was put was taken
pub all_taken : {T : Type 0} (p : PutView T) (t : TakeView T) → AreTold p t → known t ≡ [] → put_list p ≡ taken t
all_taken p t told none = told.whole ∙ ap (λ l. taken t ++ l) none ∙ append-nil (taken t)

module _ {U E : Type 0} where
  -- what holds of both links of each pair holds of each link
  pub at_link : (Q : Link U E → Type 0) (cores : List (Core U E)) → ((a b : ℕ) (d : Core U E) (e : Link U E) → a < b → b < length cores → Q (link_at cores a (b - 1) d e) × Q (link_at cores b a d e))
      → (c p : ℕ) (d : Core U E) (e : Link U E) → c < length cores → p + 1 < length cores → Q (link_at cores c p d e)
  at_link Q cores both c p d e lt within = at (cases_lt p c) where
    at : (p < c) ⊎ (c ≤ p) → Q (link_at cores c p d e)
    at (inl below) = (both p c d e below lt).1
    at (inr above) = subst (λ (k : ℕ). Q (link_at cores c k d e)) (omega arith) (both c (p + 1) d e (omega arith) within).0

  pub place_within : (cores : List (Core U E)) (c p : ℕ) (d : Core U E) → length (get_or cores c d).links.items + 1 ≡ length cores → p < length (get_or cores c d).links.items → p + 1 < length cores
  place_within cores c p d count lt = omega (arith, count, lt)
