-- Journals, input by input.
use Rattle.std.proofs.Common.{◌≡◌, ℕ, ◌+◌, ◌<◌, ◌≤◌, refl, sym, ap, ◌∙◌, Bool, true, false, List, [], ◌∷◌, length, drop, get_or, arith}
use Rattle.std.specs.Prelude.{◌&&◌, Option}
use Rattle.std.proofs.lemmas.List.{drop_more, drop_all}
use Rattle.std.proofs.lemmas.List.Sums.{length-filter}
use Rattle.ix_base.specs.declared.id.WireNo.{WireNo}
use Rattle.ix_groupdef.specs.declared.types.JournalEntry.{JournalEntry}
use Rattle.ix_lines.specs.declared.types.EntryLine.{EntryLine}
use Rattle.ix_lines.specs.declared.types.InputLine.{InputLine}
use Rattle.ix_playdef.specs.Replies.{end_at}
use Rattle.ix_fits.specs.Journals.{are_input_lines, is_input_line}

and-false : (b : Bool) → (b && false) ≡ false
and-false true = refl
and-false false = refl

inputs-differ : (entries : List EntryLine) (ends : List (Option WireNo)) (at : ℕ) (es : List JournalEntry) (ls : List InputLine) → (length es ≡ length ls → ⊥) → are_input_lines entries ends at es ls ≡ false
inputs-differ entries ends at [] [] differ = absurd (differ refl)
inputs-differ entries ends at [] (l ∷ ls) differ = refl
inputs-differ entries ends at (e ∷ es) [] differ = refl
inputs-differ entries ends at (e ∷ es) (l ∷ ls) differ =
    ap (λ (b : Bool). is_input_line entries (end_at ends at) e l && b) (inputs-differ entries ends (at + 1) es ls (λ same. differ (omega (arith, same))))
    ∙ and-false (is_input_line entries (end_at ends at) e l)

inputs-cons : (entries : List EntryLine) (ends : List (Option WireNo)) (es : List JournalEntry) (ls : List InputLine) (i : ℕ) (d : JournalEntry) (f : InputLine) → i < length es → i < length ls
    → are_input_lines entries ends i (drop i es) (drop i ls) ≡ (is_input_line entries (end_at ends i) (get_or es i d) (get_or ls i f) && are_input_lines entries ends (i + 1) (drop (i + 1) es) (drop (i + 1) ls))
inputs-cons entries ends es ls i d f lt lm =
    ap (λ xs. are_input_lines entries ends i xs (drop i ls)) (drop_more es i d lt) ∙ ap (λ ys. are_input_lines entries ends i (get_or es i d ∷ drop (i + 1) es) ys) (drop_more ls i f lm)

pub inputs-next : (entries : List EntryLine) (ends : List (Option WireNo)) (es : List JournalEntry) (ls : List InputLine) (i : ℕ) (e d : JournalEntry) (f : InputLine) → i < length es → i < length ls
    → e ≡ get_or es i d → is_input_line entries (end_at ends i) e (get_or ls i f) ≡ true → are_input_lines entries ends i (drop i es) (drop i ls) ≡ are_input_lines entries ends (i + 1) (drop (i + 1) es) (drop (i + 1) ls)
inputs-next entries ends es ls i e d f lt lm is fits =
    inputs-cons entries ends es ls i d f lt lm
    ∙ ap (λ (b : Bool). b && are_input_lines entries ends (i + 1) (drop (i + 1) es) (drop (i + 1) ls)) (ap (λ x. is_input_line entries (end_at ends i) x (get_or ls i f)) (sym is) ∙ fits)

pub inputs-not : (entries : List EntryLine) (ends : List (Option WireNo)) (es : List JournalEntry) (ls : List InputLine) (i : ℕ) (e d : JournalEntry) (f : InputLine) → i < length es → i < length ls
    → e ≡ get_or es i d → is_input_line entries (end_at ends i) e (get_or ls i f) ≡ false → are_input_lines entries ends i (drop i es) (drop i ls) ≡ false
inputs-not entries ends es ls i e d f lt lm is fails =
    inputs-cons entries ends es ls i d f lt lm
    ∙ ap (λ (b : Bool). b && are_input_lines entries ends (i + 1) (drop (i + 1) es) (drop (i + 1) ls)) (ap (λ x. is_input_line entries (end_at ends i) x (get_or ls i f)) (sym is) ∙ fails)

pub inputs-end : (entries : List EntryLine) (ends : List (Option WireNo)) (es : List JournalEntry) (ls : List InputLine) (i : ℕ) → length es ≤ i → length ls ≤ i → are_input_lines entries ends i (drop i es) (drop i ls) ≡ true
inputs-end entries ends es ls i le lf =
    ap (λ xs. are_input_lines entries ends i xs (drop i ls)) (drop_all i es le) ∙ ap (λ ys. are_input_lines entries ends i [] ys) (drop_all i ls lf)

pub inputs_differ : (entries : List EntryLine) (ends : List (Option WireNo)) (at : ℕ) (es : List JournalEntry) (ls : List InputLine) → (length es ≡ length ls → ⊥) → are_input_lines entries ends at es ls ≡ false
inputs_differ = inputs-differ

pub ruleset for_inputs = (inputs_differ, inputs-next, inputs-not, inputs-end)

pub ruleset lengths = (length-filter)
