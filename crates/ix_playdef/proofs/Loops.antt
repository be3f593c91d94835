-- One step of each loop.
use Rattle.std.proofs.Common.{◌≡◌, ℕ, ◌+◌, ◌<◌, ◌≤◌, refl, sym, ap, ◌∙◌, List, [], ◌∷◌, ◌++◌, length, get_or, take, drop, append_assoc, append-nil}
use Rattle.std.specs.Prelude.{Some, None, option_to_list, slice_range}
use Rattle.std.proofs.lemmas.List.{drop_more, drop_all, take_more}
use Rattle.ix_base.specs.declared.frame.Local.{Local}
use Rattle.ix_base.specs.declared.id.Flow.{Flow}
use Rattle.ix_pcap.specs.declared.records.Span.{Span}
use Rattle.ix_pcap.specs.Capture.{frames_of}
use Rattle.ix_wire.specs.declared.entry.Entry.{Entry}
use Rattle.ix_playdef.specs.Clock.{clock_after, clock_from}
use Rattle.ix_playdef.specs.Own.{named_by_frame, initial_numbers}

-- ## Initial numbers: those so far, and those of the records that are left
pub numbers-one : (local : Local) (bytes : List ℕ) (spans : List Span) (i : ℕ) (d : Span) (pairs : List (Flow × ℕ)) (pair : Flow × ℕ) → i < length spans
    → Some pair ≡ named_by_frame local (slice_range bytes (get_or spans i d).from (get_or spans i d).to)
    → (pairs ++ pair ∷ []) ++ initial_numbers local (frames_of bytes (drop (i + 1) spans)) ≡ pairs ++ initial_numbers local (frames_of bytes (drop i spans))
numbers-one local bytes spans i d pairs pair h e =
    append_assoc pairs (pair ∷ []) (initial_numbers local (frames_of bytes (drop (i + 1) spans)))
    ∙ ap (λ o. pairs ++ (option_to_list o ++ initial_numbers local (frames_of bytes (drop (i + 1) spans)))) e
    ∙ ap (λ xs. pairs ++ initial_numbers local (frames_of bytes xs)) (sym (drop_more spans i d h))

pub numbers-none : (local : Local) (bytes : List ℕ) (spans : List Span) (i : ℕ) (d : Span) (pairs : List (Flow × ℕ)) → i < length spans
    → None ≡ named_by_frame local (slice_range bytes (get_or spans i d).from (get_or spans i d).to)
    → pairs ++ initial_numbers local (frames_of bytes (drop (i + 1) spans)) ≡ pairs ++ initial_numbers local (frames_of bytes (drop i spans))
numbers-none local bytes spans i d pairs h e =
    ap (λ o. pairs ++ (option_to_list o ++ initial_numbers local (frames_of bytes (drop (i + 1) spans)))) e
    ∙ ap (λ xs. pairs ++ initial_numbers local (frames_of bytes xs)) (sym (drop_more spans i d h))

pub numbers-end : (local : Local) (bytes : List ℕ) (spans : List Span) (i : ℕ) (pairs : List (Flow × ℕ)) → length spans ≤ i
    → pairs ++ initial_numbers local (frames_of bytes (drop i spans)) ≡ pairs
numbers-end local bytes spans i pairs h = ap (λ xs. pairs ++ initial_numbers local (frames_of bytes xs)) (drop_all i spans h) ∙ append-nil pairs

pub ruleset for_numbers = (numbers-one, numbers-none, numbers-end)

-- ## Clocks
clock-push : (clock : ℕ) (es : List Entry) (e : Entry) → clock_from clock (es ++ e ∷ []) ≡ clock_after (clock_from clock es) e
clock-push clock [] e = refl
clock-push clock (x ∷ es) e = clock-push (clock_after clock x) es e

pub clock-more : (clock : ℕ) (es : List Entry) (i : ℕ) (d : Entry) → i < length es → clock_from clock (take (i + 1) es) ≡ clock_after (clock_from clock (take i es)) (get_or es i d)
clock-more clock es i d h = ap (clock_from clock) (take_more es i d h) ∙ clock-push clock (take i es) (get_or es i d)

pub ruleset for_clocks = (clock-more)
