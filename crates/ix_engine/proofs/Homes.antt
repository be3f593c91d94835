-- The flow groups that are at home on a core.
use Rattle.std.proofs.Common.{◌≡◌, ◌≢◌, ◌<◌, ◌+◌, ℕ, suc, List, [], ◌∷◌, ◌++◌, false, refl, ap, sym, subst, ◌∙◌, inl, inr, arith, eq-eqb}
use Rattle.std.specs.Prelude.{◌==◌, if◌then◌else◌, All}
use Rattle.std.proofs.lemmas.Bool.{cases_eq}
use Rattle.std.proofs.lemmas.Bool.Decides.{nat_tests}
use Rattle.std.proofs.lemmas.List.Elements.{All-push}
use Rattle.std.proofs.lemmas.List.Quantifiers.{all_pairs_push}
use Rattle.ix_base.specs.Branches.{if_true, if_false}
use Rattle.ix_base.specs.declared.id.GroupId.{GroupId}
use Rattle.ix_desk.specs.Groups.{at_home, empty}
use Rattle.ix_desk.specs.Views.{Group}
use Rattle.ix_stack.specs.declared.work.Work.{Work}
use Rattle.ix_nic.specs.Cards.{core_at}
use Rattle.ix_plainstack.specs.Stack.{Stack, empty_stack}
use Rattle.ix_reta.specs.Table.{Table}
use Rattle.ix_engine.specs.Openings.{AreHomes, desk_of, home_or_none}

not-same : (a b : ℕ) → a ≢ b → (a == b) ≡ false
not-same a b other = grind (arith, nat_tests)

-- a group that none of the homes is
opened-none : (g : ℕ) (hs : List (GroupId × Stack)) → All (λ (h : GroupId × Stack). h.0.0 ≢ g) hs → desk_of hs g ≡ empty
opened-none g [] all = refl
opened-none g (h ∷ hs) all = if_false (h.0.0 == g) (at_home h.1) (desk_of hs g) (not-same h.0.0 g (all 0 h (omega arith))) ∙ opened-none g hs (λ k d lt. all (suc k) d (omega (arith, lt)))

-- one home more
opened-other : (g : ℕ) (hs : List (GroupId × Stack)) (h : GroupId × Stack) → h.0.0 ≢ g → desk_of (hs ++ h ∷ []) g ≡ desk_of hs g
opened-other g [] h other = if_false (h.0.0 == g) (at_home h.1) empty (not-same h.0.0 g other)
opened-other g (x ∷ hs) h other = ap (λ (z : Group Stack Work). if x.0.0 == g then at_home x.1 else z) (opened-other g hs h other)

opened-last : (g : ℕ) (hs : List (GroupId × Stack)) (h : GroupId × Stack) → h.0.0 ≡ g → All (λ (x : GroupId × Stack). x.0.0 ≢ g) hs → desk_of (hs ++ h ∷ []) g ≡ at_home h.1
opened-last g [] h same all = if_true (h.0.0 == g) (at_home h.1) empty (eq-eqb h.0.0 g same)
opened-last g (x ∷ hs) h same all =
    if_false (x.0.0 == g) (at_home x.1) (desk_of (hs ++ h ∷ []) g) (not-same x.0.0 g (all 0 x (omega arith))) ∙ opened-last g hs h same (λ k d lt. all (suc k) d (omega (arith, lt)))

below-other : (n : ℕ) (hs : List (GroupId × Stack)) → All (λ (h : GroupId × Stack). h.0.0 < n) hs → All (λ (h : GroupId × Stack). h.0.0 ≢ n) hs
below-other n hs all = λ k d lt same. absurd (omega (arith, all k d lt, same))

below-more : (n : ℕ) (hs : List (GroupId × Stack)) → All (λ (h : GroupId × Stack). h.0.0 < n) hs → All (λ (h : GroupId × Stack). h.0.0 < n + 1) hs
below-more n hs all = λ k d lt. omega (arith, all k d lt)

pub no_homes : (table : Table) (core : ℕ) → AreHomes table core 0 []
no_homes table core = record {
  within = λ k d lt. absurd (omega (arith, lt));
  different = λ i j d lt below. absurd (omega (arith, below));
  each = λ g lt. absurd (omega (arith, lt));
}

pub home_elsewhere : (table : Table) (core n : ℕ) (homes : List (GroupId × Stack)) → AreHomes table core n homes → (core_at table n).0 ≢ core → AreHomes table core (n + 1) homes
home_elsewhere table core n homes are other = record {
  within = below-more n homes are.within;
  different = are.different;
  each = λ g lt.
      elim (cases_eq g n) [
        | inl is ↦
            subst (λ (k : ℕ). desk_of homes k ≡ home_or_none table core k) (sym is)
            (opened-none n homes (below-other n homes are.within) ∙ sym (if_false ((core_at table n).0 == core) (at_home empty_stack) empty (not-same (core_at table n).0 core other)))
        | inr apart ↦ are.each g (omega (arith, lt, apart))
      ];
}

pub home_here : (table : Table) (core : ℕ) (group : GroupId) (homes : List (GroupId × Stack)) → AreHomes table core group.0 homes → (core_at table group.0).0 ≡ core
    → AreHomes table core (group.0 + 1) (homes ++ (group, empty_stack) ∷ [])
home_here table core group homes are same = record {
  within = All-push (λ (h : GroupId × Stack). h.0.0 < group.0 + 1) homes (group, empty_stack) (below-more group.0 homes are.within) (omega arith);
  different = all_pairs_push (λ (a b : GroupId × Stack). a.0.0 ≡ b.0.0 → ⊥) homes (group, empty_stack) are.different (λ k d lt equal. absurd (omega (arith, are.within k d lt, equal)));
  each = λ g lt.
      elim (cases_eq g group.0) [
        | inl is ↦
            subst (λ (k : ℕ). desk_of (homes ++ (group, empty_stack) ∷ []) k ≡ home_or_none table core k) (sym is)
            (opened-last group.0 homes (group, empty_stack) refl (below-other group.0 homes are.within)
            ∙ sym (if_true ((core_at table group.0).0 == core) (at_home empty_stack) empty (eq-eqb (core_at table group.0).0 core same)))
        | inr apart ↦ opened-other g homes (group, empty_stack) (λ e. apart (sym e)) ∙ are.each g (omega (arith, lt, apart))
      ];
}

pub ruleset for_homes = (no_homes, home_elsewhere, home_here)
