-- One core over each of the ends.
use Rattle.std.proofs.Common.{◌≡◌, ◌<◌, ◌≤◌, ◌+◌, ◌%◌, ◌++◌, ℕ, take, drop, append-nil, List, [], ◌∷◌, length, refl, ap, sym, subst, ◌∙◌, arith, inl, inr, length-append}
use Rattle.std.specs.Prelude.{slice_index_or}
use Rattle.std.proofs.lemmas.Bool.{cases_eq}
use Rattle.std.proofs.lemmas.List.{get_or_append_left, take_all}
use Rattle.std.proofs.lemmas.Grind.{common_steps}
use Rattle.ix_conf.specs.Settings.{Settings}
use Rattle.ix_nic.specs.Cards.{core_at}
use Rattle.ix_reta.specs.Table.{Table, core_from}
use Rattle.ix_engine.specs.Openings.{CoreIsOpen, CoresAreOpen, StackCore, StackEnds}

at_last : {A : Type 0} (xs : List A) (x d : A) → slice_index_or (xs ++ x ∷ []) (length xs) d ≡ x
at_last [] x d = refl
at_last (y ∷ ys) x d = at_last ys x d

pub cores_more : (s : Settings) (table : Table) (ends : List StackEnds) (cores : List StackCore) (e : StackEnds) (c : StackCore) → CoresAreOpen s table ends cores
    → CoreIsOpen s table (length cores) e c → CoresAreOpen s table (ends ++ e ∷ []) (cores ++ c ∷ [])
cores_more s table ends cores e c are is = record {
  count = length-append cores (c ∷ []) ∙ ap (λ (k : ℕ). k + 1) are.count ∙ sym (length-append ends (e ∷ []));
  each = λ k f d lt.
      let long : length (ends ++ e ∷ []) ≡ length ends + 1 = length-append ends (e ∷ []) in
      elim (cases_eq k (length ends)) [
        | inl same ↦
            let number : length cores ≡ k = are.count ∙ sym same in
            let core : slice_index_or (cores ++ c ∷ []) k d ≡ c = subst (λ (n : ℕ). slice_index_or (cores ++ c ∷ []) n d ≡ c) number (at_last cores c d) in
            let last : slice_index_or (ends ++ e ∷ []) k f ≡ e = subst (λ (n : ℕ). slice_index_or (ends ++ e ∷ []) n f ≡ e) (sym same) (at_last ends e f) in
            subst (λ (x : StackEnds). CoreIsOpen s table k x (slice_index_or (cores ++ c ∷ []) k d)) (sym last)
            (subst (λ (y : StackCore). CoreIsOpen s table k e y) (sym core) (subst (λ (n : ℕ). CoreIsOpen s table n e c) number is))
        | inr apart ↦
            let lower : k < length ends = omega (arith, lt, long, apart) in
            let lower' : k < length cores = omega (arith, lower, are.count) in
            subst (λ (x : StackEnds). CoreIsOpen s table k x (slice_index_or (cores ++ c ∷ []) k d)) (sym (get_or_append_left ends (e ∷ []) f k lower))
            (subst (λ (y : StackCore). CoreIsOpen s table k (slice_index_or ends k f) y) (sym (get_or_append_left cores (c ∷ []) d k lower')) (are.each k f d lower))
      ];
}

pub at_opening : (table : Table) (live room group : ℕ) → table ≡ record { live = live; turns = []; room = room } → 1 ≤ live → (core_at table group).0 < live
unfolding core_from
at_opening table live room group is some =
    let below : group % 128 % live < live = omega (arith, some) in
    subst (λ (t : Table). (core_at t group).0 < live) (sym is) below

-- what stands in a vector after all of its elements were written
pub written_back : {A : Type 0} (n : ℕ) (new old : List A) → length new ≡ length old → n ≡ length old → take n (new ++ drop (length new) old) ≡ new
written_back {A} n new old same is =
    let none : drop (length new) old ≡ [] = grind (arith, common_steps) in
    ap (λ (z : List A). take n (new ++ z)) none ∙ ap (λ (z : List A). take n z) (append-nil new) ∙ take_all n new (omega (arith, same, is))
