-- Cycles that run one after another.
use Rattle.std.proofs.Common.{◌≡◌, ℕ, ◌+◌, ◌<◌, ◌≤◌, sym, ap, ◌∙◌, List, [], ◌∷◌, ◌++◌, length, map, take, get_or}
use Rattle.std.proofs.lemmas.List.{map_more, take_all, take_more}
use Rattle.ix_base.specs.declared.id.WireNo.{WireNo}
use Rattle.ix_groupdef.specs.declared.types.Taken.{Taken}
use Rattle.ix_groupdef.specs.Group.{Connect, Group, run}
use Rattle.ix_groupdef.specs.Setting.{Setting}
use Rattle.ix_told.specs.declared.cycle.ReadCycle.{ReadCycle}
use Rattle.ix_told.specs.Reading.{cycle_of}

-- ## Frames
pub copied-next : (ts : List Taken) (i : ℕ) (x d : Taken) (w : WireNo) (frame : List ℕ) (before after : List Taken) → i < length ts → x ≡ get_or ts i d → before ≡ take i ts
    → w ≡ x.w → frame ≡ x.frame → after ≡ before ++ record { w = w; frame = frame } ∷ [] → after ≡ take (i + 1) ts
copied-next ts i x d w frame before after lt is e a b put =
    put
    ∙ ap (λ (v : WireNo). before ++ (let t : Taken = record { w = v; frame = frame } in t) ∷ []) a
    ∙ ap (λ (f : List ℕ). before ++ (let t : Taken = record { w = x.w; frame = f } in t) ∷ []) b
    ∙ ap (λ (ys : List Taken). ys ++ x ∷ []) e
    ∙ ap (λ (t : Taken). take i ts ++ t ∷ []) is
    ∙ sym (take_more ts i d lt)

pub copied-all : (ts : List Taken) (i : ℕ) (copied : List Taken) → length ts ≤ i → copied ≡ take i ts → copied ≡ ts
copied-all ts i copied le e = e ∙ take_all i ts le

pub ruleset for_frames = (copied-next, copied-all)

-- ## Cycles
pub run-next : (env : Setting) (asked : List Connect) (cs : List ReadCycle) (i : ℕ) (c d : ReadCycle) (g : Group) → i < length cs → c ≡ get_or cs i d
    → g ≡ run env asked (map cycle_of (take i cs) ++ cycle_of c ∷ []) → g ≡ run env asked (map cycle_of (take (i + 1) cs))
run-next env asked cs i c d g lt is e =
    e ∙ ap (run env asked) (ap (λ (k : ReadCycle). map cycle_of (take i cs) ++ cycle_of k ∷ []) is ∙ sym (map_more cycle_of cs i d lt))

pub run-all : (env : Setting) (asked : List Connect) (cs : List ReadCycle) (i : ℕ) (g : Group) → length cs ≤ i → g ≡ run env asked (map cycle_of (take i cs)) → g ≡ run env asked (map cycle_of cs)
run-all env asked cs i g le e = e ∙ ap (λ (ks : List ReadCycle). run env asked (map cycle_of ks)) (take_all i cs le)

pub ruleset for_cycles = (run-next, run-all)
