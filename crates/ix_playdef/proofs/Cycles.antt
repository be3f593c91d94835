-- Cycles that are put behind others.
use Rattle.std.proofs.Common.{◌≡◌, ℕ, ◌<◌, ◌≤◌, refl, sym, ap, ◌∙◌, Bool, true, false, List, [], ◌∷◌, ◌++◌, length, arith, append_assoc, append-nil}
use Rattle.std.specs.Prelude.{nat_lt, if◌then◌else◌}
use Rattle.std.proofs.lemmas.Bool.Decides.{nat_tests}
use Rattle.ix_base.specs.declared.id.CoreId.{CoreId}
use Rattle.ix_groupdef.specs.declared.types.Taken.{Taken}
use Rattle.ix_groupdef.specs.Group.{Cycle, Frames, Group, Connect, run}
use Rattle.ix_groupdef.specs.Setting.{Setting}
use Rattle.ix_playdef.specs.declared.wire.Given.{Given}
use Rattle.ix_playdef.specs.declared.wire.Given.TheVariants.{Frame}
use Rattle.ix_base.specs.declared.id.TheConstants.{BUFFER_BYTES}
use Rattle.ix_playdef.specs.Wire.{cycle_by, cycles_of}

pub short-cycle : (core : CoreId) (taken : Taken) → length taken.frame ≤ 2048 → cycle_by core (Frame taken) ≡ Frames core (taken ∷ []) ∷ []
short-cycle core taken le = let no : nat_lt BUFFER_BYTES (length taken.frame) ≡ false = grind (arith, nat_tests) in ap (λ (b : Bool). if b then [] else Frames core (taken ∷ []) ∷ []) no

pub long-cycle : (core : CoreId) (taken : Taken) → 2048 < length taken.frame → cycle_by core (Frame taken) ≡ []
long-cycle core taken lt = let yes : nat_lt BUFFER_BYTES (length taken.frame) ≡ true = grind (arith, nat_tests) in ap (λ (b : Bool). if b then [] else Frames core (taken ∷ []) ∷ []) yes

pub ruleset for_one = (short-cycle, long-cycle, append-nil)

cycles-push : (core : CoreId) (gs : List Given) (g : Given) → cycles_of core (gs ++ g ∷ []) ≡ cycles_of core gs ++ cycle_by core g
cycles-push core [] g = append-nil (cycle_by core g)
cycles-push core (x ∷ gs) g = ap (λ cs. cycle_by core x ++ cs) (cycles-push core gs g) ∙ sym (append_assoc (cycle_by core x) (cycles_of core gs) (cycle_by core g))

pub run-push : (env : Setting) (asked : List Connect) (core : CoreId) (cs : List Cycle) (gs : List Given) (g : Given) (group : Group)
    → group ≡ run env asked ((cs ++ cycles_of core gs) ++ cycle_by core g) → group ≡ run env asked (cs ++ cycles_of core (gs ++ g ∷ []))
run-push env asked core cs gs g group e =
    e ∙ ap (run env asked) (append_assoc cs (cycles_of core gs) (cycle_by core g) ∙ ap (λ xs. cs ++ xs) (sym (cycles-push core gs g)))

pub run-none : (env : Setting) (asked : List Connect) (cs : List Cycle) (group : Group) → group ≡ run env asked cs → group ≡ run env asked (cs ++ [])
run-none env asked cs group e = e ∙ ap (run env asked) (sym (append-nil cs))

pub ruleset for_all = (run-push, run-none)
