-- The buffers of frames.
use Rattle.std.proofs.Common.{◌≡◌, ◌<◌, ◌==◌, ℕ, Bool, List, [], ◌∷◌, ◌++◌, refl, ap, subst, ◌∙◌, eq-eqb}
use Rattle.std.specs.Prelude.{if◌then◌else◌}
use Rattle.std.specs.List.{AllByRecursion}
use Rattle.std.proofs.lemmas.List.Elements.{recursion_from_All}
use Rattle.ix_base.specs.declared.id.BufId.{BufId}
use Rattle.ix_base.specs.declared.id.CoreId.{CoreId}
use Rattle.ix_mbuf.specs.Pools.{Stock}
use Rattle.ix_lines.specs.declared.types.EntryLine.{EntryLine}
use Rattle.ix_lines.specs.declared.types.EntryLine.TheVariants as lines
use Rattle.ix_lines.specs.declared.types.Fate.TheVariants as fates
use Rattle.ix_carried.specs.Laws.{HasOwnBuffer}
use Rattle.ix_feed.specs.Told.{used_by, used_on}
use Rattle.ix_homes.specs.Homes.{IsIdOf}
use Rattle.ix_slots.specs.Slots.{FramesAreOwn, HasRing}

front-by : {X : Type 0} (P : X → Type 0) (xs ys : List X) → AllByRecursion P (xs ++ ys) → AllByRecursion P xs
front-by P [] ys h = tt
front-by P (x ∷ xs) ys h = (h.0, front-by P xs ys h.1)

end-by : {X : Type 0} (P : X → Type 0) (xs ys : List X) → AllByRecursion P (xs ++ ys) → AllByRecursion P ys
end-by P [] ys h = h
end-by P (x ∷ xs) ys h = end-by P xs ys h.1

module _ (cores buffers : ℕ) (pool : ℕ → Stock) (pools : (c : ℕ) → c < cores → ((pool c).home.0 ≡ c) × ((pool c).n ≡ buffers)) where
  in-slot : (r : ℕ) (b : BufId) → r < cores → AllByRecursion (IsIdOf (pool r)) (if r == r then b ∷ [] else []) → (b.home.0 ≡ r) × (b.slot < buffers)
  in-slot r b lt used =
      let is : IsIdOf (pool r) b = (subst (λ (t : Bool). AllByRecursion (IsIdOf (pool r)) (if t then b ∷ [] else [])) (eq-eqb r r refl) used).0 in
      (ap (λ (h : CoreId). h.0) is.0 ∙ (pools r lt).0, subst (λ m. b.slot < m) (pools r lt).1 is.1)

  one-own : (l : EntryLine) → HasRing cores l → ((c : ℕ) → c < cores → AllByRecursion (IsIdOf (pool c)) (used_by c l)) → HasOwnBuffer buffers l
  one-own (lines.Frame rec at group ring (fates.Buf b)) lt used = in-slot ring.0 b lt (used ring.0 lt)
  one-own (lines.Frame rec at group ring (fates.RingFull n)) lt used = tt
  one-own (lines.Frame rec at group ring (fates.NoBuffer n)) lt used = tt
  one-own (lines.Frame rec at group ring (fates.TooLong n)) lt used = tt
  one-own (lines.Time t) lt used = tt
  one-own (lines.Tag group) lt used = tt
  one-own (lines.Move group to) lt used = tt
  one-own lines.Settle lt used = tt

  all-own : (told : List EntryLine) → AllByRecursion (HasRing cores) told → ((c : ℕ) → c < cores → AllByRecursion (IsIdOf (pool c)) (used_on c told)) → AllByRecursion (HasOwnBuffer buffers) told
  all-own [] rings used = tt
  all-own (l ∷ ls) rings used =
      (one-own l rings.0 (λ c lt. front-by (IsIdOf (pool c)) (used_by c l) (used_on c ls) (used c lt)), all-own ls rings.1 (λ c lt. end-by (IsIdOf (pool c)) (used_by c l) (used_on c ls) (used c lt)))

pub frames-are-own : FramesAreOwn
frames-are-own cores buffers pool told pools rings used = all-own cores buffers pool pools told rings (λ c lt. recursion_from_All (IsIdOf (pool c)) (used_on c told) (used c lt))
