-- The loops over held heads.
use Rattle.std.proofs.Common.{◌≡◌, ℕ, ◌+◌, ◌<◌, ◌≤◌, List, [], ◌∷◌, Bool, true, false, length, take, drop, map, ◌++◌, arith, refl, get_or, ap, sym, ◌∙◌}
use Rattle.std.proofs.Math.Seq.{drop-length}
use Rattle.std.proofs.lemmas.List.{take_more, drop_more, map-append}
use Rattle.std.specs.Prelude.{nat_lt, slice_get, Some, None}
use Rattle.std.proofs.lemmas.Grind.{common_steps}
use Rattle.ix_base.specs.Sequence.{ahead, is_past}
use Rattle.ix_tcpdef.specs.declared.types.HeldHead.{HeldHead}
use Rattle.ix_tcpdef.specs.declared.types.Tcb.{Tcb}
use Rattle.ix_tcpin.specs.declared.verdict.HeldUse.TheVariants as uses
use Rattle.ix_tcpin.specs.Work.{keep}
use Rattle.ix_tcpin.specs.Text.{filled_numbers, place_among}

-- ## Keeping
pub keep_more : (ss : List HeldHead) (i : ℕ) → i < length ss → map keep (take (i + 1) ss) ≡ map keep (take i ss) ++ uses.Keep ∷ []
keep_more ss i lt =
    let d : HeldHead = record { at = 0; len = 0; fin = false } in
    ap (map keep) (take_more ss i d lt) ∙ map-append keep (take i ss) (get_or ss i d ∷ [])

-- ## Filling
pub filled_none_left : (ss : List HeldHead) (fin : Bool) (t : Tcb) → slice_get ss 0 ≡ None → filled_numbers ss fin t ≡ record { numbers = t; uses = map keep ss; fin = fin }
unfolding filled_numbers
filled_none_left [] fin t h = refl
filled_none_left (s ∷ rest) fin t h = cc

pub filled_stops : (ss : List HeldHead) (fin : Bool) (t : Tcb) (s : HeldHead) → slice_get ss 0 ≡ Some s → is_past t.rcv_nxt s.at ≡ true → filled_numbers ss fin t ≡ record { numbers = t; uses = map keep ss; fin = fin }
unfolding filled_numbers
filled_stops [] fin t s h past = cc
filled_stops (r ∷ rest) fin t s h past = grind (arith, common_steps)

-- ## The place of a new one
pub place_here : (rcv past : ℕ) (ss : List HeldHead) (i : ℕ) (s : HeldHead) → i < length ss → s ≡ get_or ss i s → past < ahead rcv s.at → place_among rcv past (drop i ss) ≡ 0
place_here rcv past ss i s lt here before =
    let test : nat_lt past (ahead rcv s.at) ≡ true = grind (arith, common_steps) in
    ap (place_among rcv past) (drop_more ss i s lt ∙ ap (λ (x : HeldHead). x ∷ drop (i + 1) ss) (sym here)) ∙ rw test refl

pub place_next : (rcv past : ℕ) (ss : List HeldHead) (i : ℕ) (s : HeldHead) → i < length ss → s ≡ get_or ss i s → ahead rcv s.at ≤ past → place_among rcv past (drop i ss) ≡ 1 + place_among rcv past (drop (i + 1) ss)
place_next rcv past ss i s lt here after =
    let test : nat_lt past (ahead rcv s.at) ≡ false = grind (arith, common_steps) in
    ap (place_among rcv past) (drop_more ss i s lt ∙ ap (λ (x : HeldHead). x ∷ drop (i + 1) ss) (sym here)) ∙ rw test refl

pub place_last : (rcv past : ℕ) (ss : List HeldHead) → place_among rcv past (drop (length ss) ss) ≡ 0
place_last rcv past ss = ap (place_among rcv past) (drop-length ss)
