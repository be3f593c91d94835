-- Lines that are all there.
use Rattle.std.proofs.Common.{◌≡◌, ℕ, zero, suc, ◌+◌, ◌<◌, ◌≤◌, ◌++◌, refl, sym, ap, ◌∙◌, List, [], ◌∷◌, length, get_or, drop, append_assoc, append-nil, arith}
use Rattle.std.specs.Prelude.{IsSome, Option, Some, None, option_map}
use Rattle.std.proofs.lemmas.List.{drop_all, drop_more, map-append}
use Rattle.ix_base.specs.declared.id.CoreId.{CoreId}
use Rattle.ix_base.specs.declared.id.WireNo.{WireNo}
use Rattle.ix_base.specs.declared.segment.Seg.{Seg}
use Rattle.ix_groupdef.specs.Whole.{AreWhole, HasCore, HasEnd}
use Rattle.ix_groupdef.specs.declared.types.JournalEntry.{JournalEntry}
use Rattle.ix_lines.specs.declared.types.InputKind.{InputKind}
use Rattle.ix_lines.specs.declared.types.OutputLine.{OutputLine}
use Rattle.ix_playdef.specs.Replies.{end_at}
use Rattle.ix_tcpdef.specs.declared.types.Input.TheVariants as inputs
use Rattle.ix_sheet.specs.Lines.{all_present, by_place, line_with, present}

pub present-push : {A : Type 0} (ls : List A) (l : A) → present (ls ++ l ∷ []) ≡ present ls ++ Some l ∷ []
present-push ls l = map-append Some ls (l ∷ [])

pub all-present : {A : Type 0} (ls : List A) → all_present (present ls) ≡ Some ls
all-present [] = refl
all-present (l ∷ ls) = ap (option_map (λ rest. l ∷ rest)) (all-present ls)

-- ## One step of a loop: what was given so far, and what the rest gives
pub by_place-step : {A B : Type 0} (f : ℕ → A → B) (xs : List A) (i : ℕ) (d : A) (done : List B) (y : B) → i < length xs → y ≡ f i (get_or xs i d)
    → (done ++ y ∷ []) ++ by_place f (i + 1) (drop (i + 1) xs) ≡ done ++ by_place f i (drop i xs)
by_place-step f xs i d done y h e =
    append_assoc done (y ∷ []) (by_place f (i + 1) (drop (i + 1) xs))
    ∙ ap (λ z. done ++ z ∷ by_place f (i + 1) (drop (i + 1) xs)) e
    ∙ ap (λ zs. done ++ by_place f i zs) (sym (drop_more xs i d h))

pub by_place-end : {A B : Type 0} (f : ℕ → A → B) (xs : List A) (i : ℕ) (done : List B) → length xs ≤ i → done ++ by_place f i (drop i xs) ≡ done
by_place-end f xs i done h = ap (λ zs. done ++ by_place f i zs) (drop_all i xs h) ∙ append-nil done

pub present-step : {A B : Type 0} (f : ℕ → A → Option B) (xs : List A) (i : ℕ) (d : A) (ls : List B) (l : B) → i < length xs → Some l ≡ f i (get_or xs i d)
    → present (ls ++ l ∷ []) ++ by_place f (i + 1) (drop (i + 1) xs) ≡ present ls ++ by_place f i (drop i xs)
present-step f xs i d ls l h e =
    ap (λ zs. zs ++ by_place f (i + 1) (drop (i + 1) xs)) (present-push ls l) ∙ by_place-step f xs i d (present ls) (Some l) h e

pub ruleset steps = (present-step, by_place-end)

pub ruleset stray_steps = (by_place-step, by_place-end)

-- ## Kinds
pub core_there : (w : WireNo) (seg : Seg) (core : Option CoreId) → HasCore (inputs.Segment w seg) core → IsSome core
core_there w seg None has = absurd has
core_there w seg (Some core) has = refl

pub end_there : (end : Option WireNo) → HasEnd inputs.Flush end → IsSome end
end_there None has = absurd has
end_there (Some w) has = refl

pub ruleset for_kinds = (core_there, end_there)

-- ## Whole lines
pub input-there : (kind : Option InputKind) (k : InputKind) (os : List (Option OutputLine)) (ls : List OutputLine) → Some k ≡ kind → present ls ≡ os
    → Some (record { kind = k; outputs = ls }) ≡ line_with kind (all_present os)
input-there kind k os ls e f =
    ap (λ p. option_map (λ rest. record { kind = k; outputs = rest }) p) (sym (ap all_present (sym f) ∙ all-present ls))
    ∙ ap (λ o. line_with o (all_present os)) e

pub ruleset for_input = (input-there)

pub line-there : {A B : Type 0} (g : List A → B) (ls : List A) (os : List (Option A)) → present ls ≡ os → Some (g ls) ≡ option_map g (all_present os)
line-there g ls os e = ap (option_map g) (sym (ap all_present (sym e) ∙ all-present ls))

pub ruleset for_conn = (line-there)

-- ## Entries of a journal whose segments have their cores, and whose flushes have the last entries of their cycles
pub whole-at : (es : List JournalEntry) (ends : List (Option WireNo)) (i : ℕ) (d : JournalEntry) → AreWhole es ends → i < length es
    → HasCore (get_or es i d).input (get_or es i d).core × HasEnd (get_or es i d).input (end_at ends i)
whole-at [] ends i d whole lt = absurd (omega arith)
whole-at (e ∷ es) [] i d whole lt = absurd whole
whole-at (e ∷ es) (end ∷ ends) zero d whole lt = (whole.0, whole.1)
whole-at (e ∷ es) (end ∷ ends) (suc i) d whole lt = whole-at es ends i d whole.2 (omega (arith, lt))
