-- One record of a capture.
use Rattle.std.proofs.Common.{◌≡◌, All, ℕ, zero, suc, ◌+◌, ◌-◌, ◌<◌, ◌≤◌, List, [], ◌∷◌, ◌++◌, length, drop, refl, sym, ◌∙◌, ap, arith, drop-drop, length-append}
use Rattle.std.specs.Prelude.{Result, Ok, Err}
use Rattle.std.proofs.lemmas.List.{append_assoc}
use Rattle.std.proofs.lemmas.List.Elements.{All-push, All-same}
use Rattle.std.proofs.lemmas.Bool.Decides.{nat_tests}
use Rattle.ix_pcap.specs.declared.records.Span.{Span}
use Rattle.ix_pcap.specs.declared.records.CaptureFault.{CaptureFault}
use Rattle.ix_pcap.specs.declared.records.CaptureFault.TheVariants.{TooManyRecords, CutRecord}
use Rattle.ix_pcap.specs.Capture.{IsSpanOf, records, with_front}

pub with_front-append : (a b : List Span) (r : Result (List Span) CaptureFault) → with_front a (with_front b r) ≡ with_front (a ++ b) r
with_front-append a b (Ok spans) = ap (λ (l : List Span). Ok l) (sym (append_assoc a b spans))
with_front-append a b (Err fault) = refl

pub no_more : (number : ℕ → List ℕ → ℕ) (max at : ℕ) (rest : List ℕ) → length rest ≡ 0 → records number max at rest ≡ Ok []
unfolding records
no_more number max at [] none = refl
no_more number max at (b ∷ bs) none = absurd (omega arith)

pub too_many : (number : ℕ → List ℕ → ℕ) (max at : ℕ) (rest : List ℕ) → max ≡ 0 → 0 < length rest → records number max at rest ≡ Err TooManyRecords
unfolding records
too_many number max at [] none some = absurd (omega arith)
too_many number zero at (b ∷ bs) none some = refl
too_many number (suc max) at (b ∷ bs) none some = absurd (omega arith)

pub cut_header : (number : ℕ → List ℕ → ℕ) (max at : ℕ) (rest : List ℕ) → 0 < max → 0 < length rest → length rest < 16 → records number max at rest ≡ Err (CutRecord at)
unfolding records
cut_header number max at [] room some short = absurd (omega arith)
cut_header number zero at (b ∷ bs) room some short = absurd (omega arith)
cut_header number (suc max) at (b ∷ bs) room some short = grind (arith, nat_tests)

pub cut_frame : (number : ℕ → List ℕ → ℕ) (max at : ℕ) (rest : List ℕ) → 0 < max → 16 ≤ length rest → length rest < 16 + number 4 (drop 8 rest) → records number max at rest ≡ Err (CutRecord at)
unfolding records
cut_frame number max at [] room some short = absurd (omega arith)
cut_frame number zero at (b ∷ bs) room some short = absurd (omega arith)
cut_frame number (suc max) at (b ∷ bs) room some short = grind (arith, nat_tests)

pub one_record : (number : ℕ → List ℕ → ℕ) (max at len : ℕ) (rest : List ℕ) → len ≡ number 4 (drop 8 rest) → 0 < max → 16 + len ≤ length rest
    → records number max at rest ≡ with_front (record { from = at + 16; to = at + 16 + len } ∷ []) (records number (max - 1) (at + 16 + len) (drop (16 + len) rest))
unfolding records
one_record number max at len [] is room whole = absurd (omega arith)
one_record number zero at len (b ∷ bs) is room whole = absurd (omega arith)
one_record number (suc max) at len (b ∷ bs) is room whole = grind (arith, nat_tests)

-- after one more record, the rest still gives the whole
pub one_more : (number : ℕ → List ℕ → ℕ) (max at len : ℕ) (bytes : List ℕ) (old new : List Span) (all : Result (List Span) CaptureFault)
    → len ≡ number 4 (drop 8 (drop at bytes)) → length old < max → 16 + len ≤ length (drop at bytes)
    → new ≡ old ++ record { from = at + 16; to = at + 16 + len } ∷ []
    → with_front old (records number (max - length old) at (drop at bytes)) ≡ all
    → with_front new (records number (max - length new) (at + 16 + len) (drop (at + 16 + len) bytes)) ≡ all
one_more number max at len bytes old new all is room whole pushed so_far =
    let one : Span = record { from = at + 16; to = at + 16 + len } in
    let step = one_record number (max - length old) at len (drop at bytes) is (omega arith) whole in
    let size : length new ≡ length old + 1 = ap length pushed ∙ length-append old (one ∷ []) in
    let left : max - length new ≡ max - length old - 1 = omega arith in
    let place : drop (at + 16 + len) bytes ≡ drop (16 + len) (drop at bytes) = ap (λ (n : ℕ). drop n bytes) (omega arith) ∙ sym (drop-drop (16 + len) at bytes) in
    ap (λ (l : List Span). with_front l (records number (max - length new) (at + 16 + len) (drop (at + 16 + len) bytes))) pushed
    ∙ sym (with_front-append old (one ∷ []) (records number (max - length new) (at + 16 + len) (drop (at + 16 + len) bytes)))
    ∙ ap (λ (n : ℕ). with_front old (with_front (one ∷ []) (records number n (at + 16 + len) (drop (at + 16 + len) bytes)))) left
    ∙ ap (λ (l : List ℕ). with_front old (with_front (one ∷ []) (records number (max - length old - 1) (at + 16 + len) l))) place
    ∙ ap (with_front old) (sym step)
    ∙ so_far

-- where each span lies in the bytes, and so does one more, each of all lies there
pub within_one_more : (bytes : List ℕ) (old new : List Span) (one : Span) → new ≡ old ++ one ∷ []
    → one.from ≤ one.to → one.to ≤ length bytes → All (IsSpanOf bytes) old → All (IsSpanOf bytes) new
within_one_more bytes old new one pushed forward within so_far =
    All-same (IsSpanOf bytes) new (old ++ one ∷ []) pushed (All-push (IsSpanOf bytes) old one so_far (record { forward = forward; within = within }))
