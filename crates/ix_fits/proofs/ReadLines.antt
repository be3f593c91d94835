-- What the lines of a group's connections name is what stands in their journals.
use Rattle.std.proofs.Common.{◌≡◌, ℕ, suc, ◌+◌, refl, sym, ap, ◌∙◌, Bool, true, false, List, [], ◌∷◌, ◌++◌, length, map, append_assoc, length-append, arith}
use Rattle.std.specs.Prelude.{◌&&◌, ◌||◌, ◌==◌, Option, Some, None}
use Rattle.std.specs.List.{AllByRecursion, list_all, list_any, zip}
use Rattle.std.proofs.Math.Seq.{get_or-append_seam}
use Rattle.std.proofs.lemmas.Bool.{and_parts, eqb-true, eq-eqb}
use Rattle.ix_base.specs.declared.id.CoreId.{CoreId}
use Rattle.ix_base.specs.declared.id.WireNo.{WireNo}
use Rattle.ix_groupdef.specs.declared.types.ConnEnd.{ConnEnd}
use Rattle.ix_groupdef.specs.declared.types.JournalEntry.{JournalEntry}
use Rattle.ix_groupdef.specs.Life.{Life}
use Rattle.ix_groupdef.specs.Record.{conn_end}
use Rattle.ix_groupdef.specs.Setting.{Setting}
use Rattle.ix_lines.specs.declared.types.ConnLine.{ConnLine}
use Rattle.ix_lines.specs.declared.types.EntryLine.{EntryLine}
use Rattle.ix_lines.specs.declared.types.InputKind.{InputKind}
use Rattle.ix_lines.specs.declared.types.InputKind.TheVariants as kinds
use Rattle.ix_lines.specs.declared.types.InputLine.{InputLine}
use Rattle.ix_playdef.specs.Replies.{end_at}
use Rattle.ix_tcpdef.specs.declared.types.Ask.{Ask}
use Rattle.ix_tcpdef.specs.declared.types.Ask.TheVariants as asks
use Rattle.ix_tcpdef.specs.declared.types.Input.{Input}
use Rattle.ix_tcpdef.specs.declared.types.Input.TheVariants as inputs
use Rattle.ix_fits.specs.Journals.{are_input_lines, are_journals, are_output_lines, is_call_line, is_core, is_entry, is_input_line, is_journal, is_kind}
use Rattle.ix_fits.specs.Read.{has_input, is_flush_at, is_flushed, is_heard, is_segment_at}

-- ## In journals
-- whether an input is the segment with this wire number
abbrev pub is_segment_of : ℕ → Input → Bool
is_segment_of w (inputs.Segment v seg) = v.0 == w
is_segment_of w inputs.Timer = false
is_segment_of w (inputs.Call ask) = false
is_segment_of w inputs.Flush = false

abbrev pub is_flush : Input → Bool
is_flush (inputs.Segment v seg) = false
is_flush inputs.Timer = false
is_flush (inputs.Call ask) = false
is_flush inputs.Flush = true

abbrev pub is_end : ℕ → Option WireNo → Bool
is_end w None = false
is_end w (Some v) = v.0 == w

abbrev pub heard_in : ℕ → List JournalEntry → Bool
heard_in w [] = false
heard_in w (e ∷ es) = is_segment_of w e.input || heard_in w es

-- whether one of the inputs is the flush of a cycle that ends with this entry
abbrev pub flushed_in : ℕ → List JournalEntry → List (Option WireNo) → Bool
flushed_in w [] ends = false
flushed_in w (e ∷ es) [] = false
flushed_in w (e ∷ es) (end ∷ ends) = (is_flush e.input && is_end w end) || flushed_in w es ends

abbrev pub hears_number : ℕ → Life → Bool
hears_number w l = heard_in w l.journal

abbrev pub flushes_at : ℕ → Life → Bool
flushes_at w l = flushed_in w l.journal l.ends

abbrev pub one_hears : ℕ → List Life → Bool
one_hears w ls = list_any (hears_number w) ls

abbrev pub one_flushes : ℕ → List Life → Bool
one_flushes w ls = list_any (flushes_at w) ls

-- each input has the last entry of its cycle
abbrev pub IsEven : Life → Type 0
IsEven l = length l.journal ≡ length l.ends

-- ## One input
same-number : (a b w : ℕ) → (a == b) ≡ true → (a == w) ≡ (b == w)
same-number a b w e = ap (λ n. n == w) (eqb-true a b e)

call-heard : (w : ℕ) (ask : Ask) (kind : InputKind) → is_call_line ask kind ≡ true → is_segment_at w kind ≡ false
call-heard w ask kinds.Connect e = refl
call-heard w ask (kinds.Timer t) e = refl
call-heard w ask kinds.Accept e = refl
call-heard w ask (kinds.Sendv n) e = refl
call-heard w ask (kinds.RecvDone n) e = refl
call-heard w ask kinds.Close e = refl
call-heard w ask (kinds.Flush v) e = refl
call-heard w asks.Connect (kinds.Seg v core) e = absurd (cc)
call-heard w asks.Accept (kinds.Seg v core) e = absurd (cc)
call-heard w (asks.Sendv bytes) (kinds.Seg v core) e = absurd (cc)
call-heard w (asks.RecvDone bytes) (kinds.Seg v core) e = absurd (cc)
call-heard w asks.Close (kinds.Seg v core) e = absurd (cc)

call-flushed : (w : ℕ) (ask : Ask) (kind : InputKind) → is_call_line ask kind ≡ true → is_flush_at w kind ≡ false
call-flushed w ask kinds.Connect e = refl
call-flushed w ask (kinds.Timer t) e = refl
call-flushed w ask kinds.Accept e = refl
call-flushed w ask (kinds.Sendv n) e = refl
call-flushed w ask (kinds.RecvDone n) e = refl
call-flushed w ask kinds.Close e = refl
call-flushed w ask (kinds.Seg v core) e = refl
call-flushed w asks.Connect (kinds.Flush v) e = absurd (cc)
call-flushed w asks.Accept (kinds.Flush v) e = absurd (cc)
call-flushed w (asks.Sendv bytes) (kinds.Flush v) e = absurd (cc)
call-flushed w (asks.RecvDone bytes) (kinds.Flush v) e = absurd (cc)
call-flushed w asks.Close (kinds.Flush v) e = absurd (cc)

kind-heard : (w : ℕ) (input : Input) (clock : ℕ) (core : Option CoreId) (end : Option WireNo) (kind : InputKind) → is_kind input clock core end kind ≡ true → is_segment_at w kind ≡ is_segment_of w input
kind-heard w (inputs.Segment v seg) clock core end (kinds.Seg u c) e = same-number u.0 v.0 w (and_parts (u.0 == v.0) (is_core c.0 core) e).0
kind-heard w (inputs.Segment v seg) clock core end kinds.Connect e = absurd (cc)
kind-heard w (inputs.Segment v seg) clock core end (kinds.Timer t) e = absurd (cc)
kind-heard w (inputs.Segment v seg) clock core end kinds.Accept e = absurd (cc)
kind-heard w (inputs.Segment v seg) clock core end (kinds.Sendv n) e = absurd (cc)
kind-heard w (inputs.Segment v seg) clock core end (kinds.RecvDone n) e = absurd (cc)
kind-heard w (inputs.Segment v seg) clock core end kinds.Close e = absurd (cc)
kind-heard w (inputs.Segment v seg) clock core end (kinds.Flush u) e = absurd (cc)
kind-heard w inputs.Timer clock core end (kinds.Timer t) e = refl
kind-heard w inputs.Timer clock core end (kinds.Seg u c) e = absurd (cc)
kind-heard w inputs.Timer clock core end kinds.Connect e = refl
kind-heard w inputs.Timer clock core end kinds.Accept e = refl
kind-heard w inputs.Timer clock core end (kinds.Sendv n) e = refl
kind-heard w inputs.Timer clock core end (kinds.RecvDone n) e = refl
kind-heard w inputs.Timer clock core end kinds.Close e = refl
kind-heard w inputs.Timer clock core end (kinds.Flush u) e = refl
kind-heard w (inputs.Call ask) clock core end kind e = call-heard w ask kind e
kind-heard w inputs.Flush clock core end (kinds.Flush u) e = refl
kind-heard w inputs.Flush clock core end (kinds.Seg u c) e = absurd (cc)
kind-heard w inputs.Flush clock core end kinds.Connect e = refl
kind-heard w inputs.Flush clock core end (kinds.Timer t) e = refl
kind-heard w inputs.Flush clock core end kinds.Accept e = refl
kind-heard w inputs.Flush clock core end (kinds.Sendv n) e = refl
kind-heard w inputs.Flush clock core end (kinds.RecvDone n) e = refl
kind-heard w inputs.Flush clock core end kinds.Close e = refl

entry-end : (w : ℕ) (v : WireNo) (end : Option WireNo) → is_entry v.0 end ≡ true → (v.0 == w) ≡ (true && is_end w end)
entry-end w v None e = absurd (cc)
entry-end w v (Some u) e = sym (same-number u.0 v.0 w e)

kind-flushed : (w : ℕ) (input : Input) (clock : ℕ) (core : Option CoreId) (end : Option WireNo) (kind : InputKind) → is_kind input clock core end kind ≡ true → is_flush_at w kind ≡ (is_flush input && is_end w end)
kind-flushed w (inputs.Segment v seg) clock core end (kinds.Seg u c) e = refl
kind-flushed w (inputs.Segment v seg) clock core end kinds.Connect e = refl
kind-flushed w (inputs.Segment v seg) clock core end (kinds.Timer t) e = refl
kind-flushed w (inputs.Segment v seg) clock core end kinds.Accept e = refl
kind-flushed w (inputs.Segment v seg) clock core end (kinds.Sendv n) e = refl
kind-flushed w (inputs.Segment v seg) clock core end (kinds.RecvDone n) e = refl
kind-flushed w (inputs.Segment v seg) clock core end kinds.Close e = refl
kind-flushed w (inputs.Segment v seg) clock core end (kinds.Flush u) e = absurd (cc)
kind-flushed w inputs.Timer clock core end (kinds.Timer t) e = refl
kind-flushed w inputs.Timer clock core end (kinds.Seg u c) e = refl
kind-flushed w inputs.Timer clock core end kinds.Connect e = refl
kind-flushed w inputs.Timer clock core end kinds.Accept e = refl
kind-flushed w inputs.Timer clock core end (kinds.Sendv n) e = refl
kind-flushed w inputs.Timer clock core end (kinds.RecvDone n) e = refl
kind-flushed w inputs.Timer clock core end kinds.Close e = refl
kind-flushed w inputs.Timer clock core end (kinds.Flush u) e = absurd (cc)
kind-flushed w (inputs.Call ask) clock core end kind e = call-flushed w ask kind e
kind-flushed w inputs.Flush clock core end (kinds.Flush u) e = entry-end w u end e
kind-flushed w inputs.Flush clock core end (kinds.Seg u c) e = absurd (cc)
kind-flushed w inputs.Flush clock core end kinds.Connect e = absurd (cc)
kind-flushed w inputs.Flush clock core end (kinds.Timer t) e = absurd (cc)
kind-flushed w inputs.Flush clock core end kinds.Accept e = absurd (cc)
kind-flushed w inputs.Flush clock core end (kinds.Sendv n) e = absurd (cc)
kind-flushed w inputs.Flush clock core end (kinds.RecvDone n) e = absurd (cc)
kind-flushed w inputs.Flush clock core end kinds.Close e = absurd (cc)

-- ## One journal

inputs-heard : (w : ℕ) (entries : List EntryLine) (ends : List (Option WireNo)) (at : ℕ) (es : List JournalEntry) (ls : List InputLine) → are_input_lines entries ends at es ls ≡ true
    → list_any (λ (l : InputLine). is_segment_at w l.kind) ls ≡ heard_in w es
inputs-heard w entries ends at [] [] e = refl
inputs-heard w entries ends at [] (l ∷ ls) e = absurd (cc)
inputs-heard w entries ends at (x ∷ xs) [] e = absurd (cc)
inputs-heard w entries ends at (x ∷ xs) (l ∷ ls) e =
    let both = and_parts (is_input_line entries (end_at ends at) x l) (are_input_lines entries ends (at + 1) xs ls) e in
    let here = and_parts (is_kind x.input x.clock x.core (end_at ends at) l.kind) (are_output_lines entries x.outputs l.outputs) both.0 in
    ap (λ (b : Bool). b || list_any (λ (l : InputLine). is_segment_at w l.kind) ls) (kind-heard w x.input x.clock x.core (end_at ends at) l.kind here.0)
    ∙ ap (λ (b : Bool). is_segment_of w x.input || b) (inputs-heard w entries ends (at + 1) xs ls both.1)

-- the end of the input behind some ends
end-behind : (pre : List (Option WireNo)) (end : Option WireNo) (more : List (Option WireNo)) → end_at (pre ++ end ∷ more) (length pre) ≡ end
end-behind pre end more = get_or-append_seam pre end more None

one-longer : (pre : List (Option WireNo)) (end : Option WireNo) → length pre + 1 ≡ length (pre ++ end ∷ [])
one-longer pre end = sym (length-append pre (end ∷ []))

inputs-flushed : (w : ℕ) (entries : List EntryLine) (pre ends : List (Option WireNo)) (es : List JournalEntry) (ls : List InputLine) → length es ≡ length ends
    → are_input_lines entries (pre ++ ends) (length pre) es ls ≡ true → list_any (λ (l : InputLine). is_flush_at w l.kind) ls ≡ flushed_in w es ends
inputs-flushed w entries pre ends [] [] even e = refl
inputs-flushed w entries pre ends [] (l ∷ ls) even e = absurd (cc)
inputs-flushed w entries pre ends (x ∷ xs) [] even e = absurd (cc)
inputs-flushed w entries pre [] (x ∷ xs) (l ∷ ls) even e = absurd (omega (arith, even))
inputs-flushed w entries pre (end ∷ ends) (x ∷ xs) (l ∷ ls) even e =
    let all : List (Option WireNo) = pre ++ end ∷ ends in
    let both = and_parts (is_input_line entries (end_at all (length pre)) x l) (are_input_lines entries all (length pre + 1) xs ls) e in
    let here = and_parts (is_kind x.input x.clock x.core (end_at all (length pre)) l.kind) (are_output_lines entries x.outputs l.outputs) both.0 in
    let later : are_input_lines entries ((pre ++ end ∷ []) ++ ends) (length (pre ++ end ∷ [])) xs ls ≡ true =
    ap (λ (os : List (Option WireNo)). are_input_lines entries os (length (pre ++ end ∷ [])) xs ls) (append_assoc pre (end ∷ []) ends)
    ∙ ap (λ (n : ℕ). are_input_lines entries all n xs ls) (sym (one-longer pre end)) ∙ both.1 in
    ap (λ (b : Bool). b || list_any (λ (l : InputLine). is_flush_at w l.kind) ls)
    (kind-flushed w x.input x.clock x.core (end_at all (length pre)) l.kind here.0 ∙ ap (λ (o : Option WireNo). is_flush x.input && is_end w o) (end-behind pre end ends))
    ∙ ap (λ (b : Bool). (is_flush x.input && is_end w end) || b) (inputs-flushed w entries (pre ++ end ∷ []) ends xs ls (omega (arith, even)) later)

-- ## All connections of a group
journals-parts : (entries : List EntryLine) (c : ConnEnd) (cs : List ConnEnd) (l : ConnLine) (ls : List ConnLine) → are_journals entries (c ∷ cs) (l ∷ ls) ≡ true
    → (is_journal entries c l ≡ true) × (are_journals entries cs ls ≡ true)
journals-parts entries c cs l ls e =
    let rest : Bool = list_all (λ (p : ConnEnd × ConnLine). is_journal entries p.0 p.1) (zip cs ls) in
    let both = and_parts (suc (length cs) == suc (length ls)) (is_journal entries c l && rest) e in
    let here = and_parts (is_journal entries c l) rest both.1 in
    let same : length cs ≡ length ls = omega (arith, eqb-true (suc (length cs)) (suc (length ls)) both.0) in
    (here.0, ap (λ (b : Bool). b && rest) (eq-eqb (length cs) (length ls) same) ∙ here.1)

life-heard : (w : ℕ) (env : Setting) (entries : List EntryLine) (m : Life) (l : ConnLine) → is_journal entries (conn_end env m) l ≡ true → has_input (is_segment_at w) l ≡ hears_number w m
unfolding conn_end
life-heard w env entries m l e = inputs-heard w entries m.ends 0 m.journal l.inputs e

life-flushed : (w : ℕ) (env : Setting) (entries : List EntryLine) (m : Life) (l : ConnLine) → IsEven m → is_journal entries (conn_end env m) l ≡ true → has_input (is_flush_at w) l ≡ flushes_at w m
unfolding conn_end
life-flushed w env entries m l even e = inputs-flushed w entries [] m.ends m.journal l.inputs even e

pub lines-heard : (w : ℕ) (env : Setting) (entries : List EntryLine) (ms : List Life) (ls : List ConnLine) → are_journals entries (map (conn_end env) ms) ls ≡ true → is_heard ls w ≡ one_hears w ms
lines-heard w env entries [] [] e = refl
lines-heard w env entries [] (l ∷ ls) e = absurd (omega (arith, eqb-true 0 (suc (length ls)) (and_parts (0 == suc (length ls)) true e).0))
lines-heard w env entries (m ∷ ms) [] e = absurd (omega (arith, eqb-true (suc (length (map (conn_end env) ms))) 0 (and_parts (suc (length (map (conn_end env) ms)) == 0) true e).0))
lines-heard w env entries (m ∷ ms) (l ∷ ls) e =
    let both = journals-parts entries (conn_end env m) (map (conn_end env) ms) l ls e in
    ap (λ (b : Bool). b || is_heard ls w) (life-heard w env entries m l both.0) ∙ ap (λ (b : Bool). hears_number w m || b) (lines-heard w env entries ms ls both.1)

pub lines-flushed : (w : ℕ) (env : Setting) (entries : List EntryLine) (ms : List Life) (ls : List ConnLine) → AllByRecursion IsEven ms → are_journals entries (map (conn_end env) ms) ls ≡ true
    → is_flushed ls w ≡ one_flushes w ms
lines-flushed w env entries [] [] even e = refl
lines-flushed w env entries [] (l ∷ ls) even e = absurd (omega (arith, eqb-true 0 (suc (length ls)) (and_parts (0 == suc (length ls)) true e).0))
lines-flushed w env entries (m ∷ ms) [] even e = absurd (omega (arith, eqb-true (suc (length (map (conn_end env) ms))) 0 (and_parts (suc (length (map (conn_end env) ms)) == 0) true e).0))
lines-flushed w env entries (m ∷ ms) (l ∷ ls) even e =
    let both = journals-parts entries (conn_end env m) (map (conn_end env) ms) l ls e in
    ap (λ (b : Bool). b || is_flushed ls w) (life-flushed w env entries m l even.0 both.0) ∙ ap (λ (b : Bool). flushes_at w m || b) (lines-flushed w env entries ms ls even.1 both.1)
