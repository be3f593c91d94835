-- The lines that are made of journals print them, and name their replies.
use Rattle.std.proofs.Common.{◌≡◌, ℕ, suc, ◌+◌, refl, sym, ap, ◌∙◌, subst, Bool, true, false, List, [], ◌∷◌, ◌++◌, length, arith}
use Rattle.std.specs.Prelude.{◌==◌, ◌&&◌, Option, Some, None, option_map, option_to_list}
use Rattle.std.specs.List.{flat_map, list_all, zip}
use Rattle.std.proofs.lemmas.Bool.Decides.{nat_tests}
use Rattle.std.proofs.lemmas.List.{map-append}
use Rattle.ix_base.specs.declared.frame.Local.{Local}
use Rattle.ix_base.specs.declared.id.BufId.{BufId}
use Rattle.ix_base.specs.declared.id.CoreId.{CoreId}
use Rattle.ix_base.specs.declared.id.WireNo.{WireNo}
use Rattle.ix_base.specs.declared.segment.Ret.{Ret}
use Rattle.ix_base.specs.declared.segment.Ret.TheVariants as returns
use Rattle.ix_fits.specs.Journals.{AreConnLines, IsConnLine, are_input_lines, are_journals, are_output_lines, buffer_of, is_answer_line, is_buffer, is_call_line, is_flush_line, is_input_line, is_journal, is_kind, is_output_line, is_recv_line, is_segment_line, is_told_line}
use Rattle.ix_fits.specs.Replies.{conn_numbers, input_numbers, output_number, stray_number}
use Rattle.ix_groupdef.specs.declared.types.ConnEnd.{ConnEnd}
use Rattle.ix_groupdef.specs.declared.types.JournalEntry.{JournalEntry}
use Rattle.ix_groupdef.specs.declared.types.Stray.{Stray}
use Rattle.ix_lines.specs.declared.types.ConnLine.{ConnLine}
use Rattle.ix_lines.specs.declared.types.EntryLine.{EntryLine}
use Rattle.ix_lines.specs.declared.types.InputKind.{InputKind}
use Rattle.ix_lines.specs.declared.types.InputKind.TheVariants as kinds
use Rattle.ix_lines.specs.declared.types.InputLine.{InputLine}
use Rattle.ix_lines.specs.declared.types.OutputLine.{OutputLine}
use Rattle.ix_lines.specs.declared.types.OutputLine.TheVariants as given
use Rattle.ix_lines.specs.declared.types.RetLine.{RetLine}
use Rattle.ix_lines.specs.declared.types.RetLine.TheVariants as rets
use Rattle.ix_playdef.specs.Order.{number_of, numbers_among}
use Rattle.ix_playdef.specs.Placed.{placed}
use Rattle.ix_playdef.specs.Replies.{answered, by_opening, end_at, input_replies, key_at, opened_replies, reply_of, stray_key, stray_reply}
use Rattle.ix_playdef.specs.declared.order.Reply.{Reply}
use Rattle.ix_playdef.specs.declared.order.ReplyKey.{ReplyKey}
use Rattle.ix_tcpdef.specs.declared.types.Ask.{Ask}
use Rattle.ix_tcpdef.specs.declared.types.Ask.TheVariants as asks
use Rattle.ix_tcpdef.specs.declared.types.Input.{Input}
use Rattle.ix_tcpdef.specs.declared.types.Input.TheVariants as inputs
use Rattle.ix_tcpdef.specs.declared.types.Output.{Output}
use Rattle.ix_tcpdef.specs.declared.types.Output.TheVariants as outputs
use Rattle.ix_tcpdef.specs.declared.types.Told.{Told}
use Rattle.ix_tcpdef.specs.declared.types.Told.TheVariants as told
use Rattle.ix_sheet.specs.Lines.{all_present, by_place, call_kind, conn_line, given_lines, input_kind, input_line, input_lines, line_with, output_line, present, recv_line, ret_line, told_line}
use Rattle.ix_sheet.specs.Strays.{reply_number, stray_line}
use Rattle.ix_sheet.proofs.ConnLaws.{Head, IsMade, head-of, made}

-- ## Lines that are all there
some_same : {A : Type 0} (a b : A) → (let o : Option A = Some a in o) ≡ Some b → a ≡ b
some_same a b e = cc

-- where all are there, they are these
pub present-all : {A : Type 0} (os : List (Option A)) (ls : List A) → all_present os ≡ Some ls → present ls ≡ os
present-all [] ls e = ap present (sym (some_same [] ls e))
present-all (None ∷ os) ls e = absurd (cc)
present-all {A} (Some l ∷ os) ls e = by_case (all_present os) (λ rest is. present-all os rest is) e
  where
    by_case : (o : Option (List A)) → ((rest : List A) → o ≡ Some rest → present rest ≡ os) → option_map (λ rest. l ∷ rest) o ≡ Some ls → present ls ≡ Some l ∷ os
    by_case None all f = absurd (cc)
    by_case (Some rest) all f = ap present (sym (some_same (l ∷ rest) ls f)) ∙ ap (λ zs. Some l ∷ zs) (all rest refl)

length-present : {A B : Type 0} (f : ℕ → A → Option B) (at : ℕ) (xs : List A) (ls : List B) → present ls ≡ by_place f at xs → length xs ≡ length ls
length-present f at [] [] e = refl
length-present f at [] (l ∷ ls) e = absurd (cc)
length-present f at (x ∷ xs) [] e = absurd (cc)
length-present f at (x ∷ xs) (l ∷ ls) e = ap suc (length-present f (at + 1) xs ls (head-of l ls (f at x) (by_place f (at + 1) xs) e).rest)

pub same-number : (n : ℕ) → (n == n) ≡ true
same-number n = grind (arith, nat_tests)

equal-numbers : (n m : ℕ) → n ≡ m → (n == m) ≡ true
equal-numbers n m e = grind (arith, nat_tests, e)

both_true : (a b : Bool) → a ≡ true → b ≡ true → (a && b) ≡ true
both_true true b p q = q
both_true false b p q = absurd (cc)

-- a test passes of each element with its line
zipped : {A B : Type 0} (p : A → B → Bool) (f : ℕ → A → Option B) → ((i : ℕ) (x : A) (l : B) → f i x ≡ Some l → p x l ≡ true) → (at : ℕ) (xs : List A) (ls : List B)
    → present ls ≡ by_place f at xs → list_all (λ (q : A × B). p q.0 q.1) (zip xs ls) ≡ true
zipped p f each at [] [] e = refl
zipped p f each at [] (l ∷ ls) e = absurd (cc)
zipped p f each at (x ∷ xs) [] e = absurd (cc)
zipped {A} {B} p f each at (x ∷ xs) (l ∷ ls) e =
    let h : Head l ls (f at x) (by_place f (at + 1) xs) = head-of l ls (f at x) (by_place f (at + 1) xs) e in
    both_true (p x l) (list_all (λ (q : A × B). p q.0 q.1) (zip xs ls)) (each at x l h.one) (zipped p f each (at + 1) xs ls h.rest)

-- what lines name, where each names what its element gives
named : {A B : Type 0} (replies : List Reply) (g : B → List ℕ) (f : ℕ → A → Option B) (h : ℕ → A → List Reply)
    → ((i : ℕ) (x : A) (l : B) → f i x ≡ Some l → g l ≡ numbers_among replies (h i x)) → (at : ℕ) (xs : List A) (ls : List B)
    → present ls ≡ by_place f at xs → flat_map g ls ≡ numbers_among replies (placed h at xs)
named replies g f h each at [] [] e = refl
named replies g f h each at [] (l ∷ ls) e = absurd (cc)
named replies g f h each at (x ∷ xs) [] e = absurd (cc)
named replies g f h each at (x ∷ xs) (l ∷ ls) e =
    let s : Head l ls (f at x) (by_place f (at + 1) xs) = head-of l ls (f at x) (by_place f (at + 1) xs) e in
    ap (λ ns. ns ++ flat_map g ls) (each at x l s.one) ∙ ap (λ ns. numbers_among replies (h at x) ++ ns) (named replies g f h each (at + 1) xs ls s.rest)
    ∙ sym (map-append (λ (r : Reply). number_of replies r.key) (h at x) (placed h (at + 1) xs))

-- ## What an input gave
buffer-self : (b : BufId) → is_buffer b (Some b) ≡ true
buffer-self b = both_true (b.home.0 == b.home.0) (b.slot == b.slot) (same-number b.home.0) (same-number b.slot)

recv-printed : (entries : List EntryLine) (w : WireNo) (from len : ℕ) (l : OutputLine) → recv_line (buffer_of entries w.0) from len ≡ Some l → is_recv_line entries w from len l ≡ true
recv-printed entries w from len l e = by_case (buffer_of entries w.0) refl e
  where
    by_case : (o : Option BufId) → buffer_of entries w.0 ≡ o → recv_line o from len ≡ Some l → is_recv_line entries w from len l ≡ true
    by_case None is f = absurd (cc)
    by_case (Some b) is f =
        subst (λ (k : OutputLine). is_recv_line entries w from len k ≡ true) (some_same (given.Recv b from len) l f)
        (both_true (is_buffer b (buffer_of entries w.0)) (from == from && len == len) (ap (is_buffer b) is ∙ buffer-self b)
        (both_true (from == from) (len == len) (same-number from) (same-number len)))

told-printed : (entries : List EntryLine) (t : Told) (l : OutputLine) → told_line entries t ≡ Some l → is_told_line entries t l ≡ true
told-printed entries told.Knock l e = subst (λ (k : OutputLine). is_told_line entries told.Knock k ≡ true) (some_same given.Knock l e) refl
told-printed entries told.ConnectedUp l e = subst (λ (k : OutputLine). is_told_line entries told.ConnectedUp k ≡ true) (some_same given.ConnectedUp l e) refl
told-printed entries told.ConnectedRefused l e = subst (λ (k : OutputLine). is_told_line entries told.ConnectedRefused k ≡ true) (some_same given.ConnectedRefused l e) refl
told-printed entries told.ConnectedTimeout l e = subst (λ (k : OutputLine). is_told_line entries told.ConnectedTimeout k ≡ true) (some_same given.ConnectedTimeout l e) refl
told-printed entries (told.Recv w from len) l e = recv-printed entries w from len l e
told-printed entries told.RecvEnd l e = subst (λ (k : OutputLine). is_told_line entries told.RecvEnd k ≡ true) (some_same given.RecvEnd l e) refl
told-printed entries (told.Sent bytes window) l e =
    subst (λ (k : OutputLine). is_told_line entries (told.Sent bytes window) k ≡ true) (some_same (given.Sent bytes window) l e)
    (both_true (bytes == bytes) (window == window) (same-number bytes) (same-number window))
told-printed entries told.DeadReset l e = subst (λ (k : OutputLine). is_told_line entries told.DeadReset k ≡ true) (some_same given.DeadReset l e) refl
told-printed entries told.DeadTimeout l e = subst (λ (k : OutputLine). is_told_line entries told.DeadTimeout k ≡ true) (some_same given.DeadTimeout l e) refl

ret-printed : (r : Ret) (l : OutputLine) → option_map given.Ret (ret_line r) ≡ Some l → is_answer_line r l ≡ true
ret-printed (returns.Done n) l e = subst (λ (k : OutputLine). is_answer_line (returns.Done n) k ≡ true) (some_same (given.Ret (rets.Done n)) l e) (same-number n)
ret-printed returns.BadHandle l e = subst (λ (k : OutputLine). is_answer_line returns.BadHandle k ≡ true) (some_same (given.Ret rets.BadHandle) l e) refl
ret-printed returns.NotKnocked l e = subst (λ (k : OutputLine). is_answer_line returns.NotKnocked k ≡ true) (some_same (given.Ret rets.NotKnocked) l e) refl
ret-printed returns.NotOpen l e = subst (λ (k : OutputLine). is_answer_line returns.NotOpen k ≡ true) (some_same (given.Ret rets.NotOpen) l e) refl
ret-printed returns.TooMuch l e = subst (λ (k : OutputLine). is_answer_line returns.TooMuch k ≡ true) (some_same (given.Ret rets.TooMuch) l e) refl
ret-printed returns.NoNeighbour l e = absurd (cc)
ret-printed returns.NoPort l e = absurd (cc)
ret-printed returns.TableFull l e = absurd (cc)

output-printed : (entries : List EntryLine) (replies : List Reply) (key : ReplyKey) (o : Output) (l : OutputLine) → output_line entries replies key o ≡ Some l → is_output_line entries o l ≡ true
output-printed entries replies key (outputs.Frame seg) l e =
    subst (λ (k : OutputLine). is_output_line entries (outputs.Frame seg) k ≡ true) (some_same (given.Reply (number_of replies key)) l e) refl
output-printed entries replies key (outputs.Told t) l e = told-printed entries t l e
output-printed entries replies key (outputs.Ret r) l e = ret-printed r l e

told-unnamed : (entries : List EntryLine) (t : Told) (l : OutputLine) → told_line entries t ≡ Some l → output_number l ≡ []
told-unnamed entries told.Knock l e = ap output_number (sym (some_same given.Knock l e))
told-unnamed entries told.ConnectedUp l e = ap output_number (sym (some_same given.ConnectedUp l e))
told-unnamed entries told.ConnectedRefused l e = ap output_number (sym (some_same given.ConnectedRefused l e))
told-unnamed entries told.ConnectedTimeout l e = ap output_number (sym (some_same given.ConnectedTimeout l e))
told-unnamed entries (told.Recv w from len) l e = by_case (buffer_of entries w.0) e
  where
    by_case : (o : Option BufId) → recv_line o from len ≡ Some l → output_number l ≡ []
    by_case None f = absurd (cc)
    by_case (Some b) f = ap output_number (sym (some_same (given.Recv b from len) l f))
told-unnamed entries told.RecvEnd l e = ap output_number (sym (some_same given.RecvEnd l e))
told-unnamed entries (told.Sent bytes window) l e = ap output_number (sym (some_same (given.Sent bytes window) l e))
told-unnamed entries told.DeadReset l e = ap output_number (sym (some_same given.DeadReset l e))
told-unnamed entries told.DeadTimeout l e = ap output_number (sym (some_same given.DeadTimeout l e))

ret-unnamed : (o : Option RetLine) (l : OutputLine) → option_map given.Ret o ≡ Some l → output_number l ≡ []
ret-unnamed None l e = absurd (cc)
ret-unnamed (Some r) l e = ap output_number (sym (some_same (given.Ret r) l e))

output-named : (entries : List EntryLine) (replies : List Reply) (local : Local) (key : ReplyKey) (o : Output) (l : OutputLine) → output_line entries replies key o ≡ Some l
    → output_number l ≡ numbers_among replies (reply_of local key o)
output-named entries replies local key (outputs.Frame seg) l e = ap output_number (sym (some_same (given.Reply (number_of replies key)) l e))
output-named entries replies local key (outputs.Told t) l e = told-unnamed entries t l e
output-named entries replies local key (outputs.Ret r) l e = ret-unnamed (ret_line r) l e

outputs-printed : (entries : List EntryLine) (os : List Output) (ls : List OutputLine) (f : ℕ → Output → Option OutputLine)
    → ((i : ℕ) (o : Output) (l : OutputLine) → f i o ≡ Some l → is_output_line entries o l ≡ true) → present ls ≡ by_place f 0 os → are_output_lines entries os ls ≡ true
outputs-printed entries os ls f each e =
    both_true (length os == length ls) (list_all (λ (p : Output × OutputLine). is_output_line entries p.0 p.1) (zip os ls))
    (equal-numbers (length os) (length ls) (length-present f 0 os ls e))
    (zipped (is_output_line entries) f each 0 os ls e)

-- ## An input
segment-printed : (w : WireNo) (core : Option CoreId) (k : InputKind) → option_map (kinds.Seg w) core ≡ Some k → is_segment_line w core k ≡ true
segment-printed w None k e = absurd (cc)
segment-printed w (Some c) k e =
    subst (λ (j : InputKind). is_segment_line w (Some c) j ≡ true) (some_same (kinds.Seg w c) k e) (both_true (w.0 == w.0) (c.0 == c.0) (same-number w.0) (same-number c.0))

flush-printed : (end : Option WireNo) (k : InputKind) → option_map kinds.Flush end ≡ Some k → is_flush_line end k ≡ true
flush-printed None k e = absurd (cc)
flush-printed (Some w) k e = subst (λ (j : InputKind). is_flush_line (Some w) j ≡ true) (some_same (kinds.Flush w) k e) (same-number w.0)

call-printed : (ask : Ask) → is_call_line ask (call_kind ask) ≡ true
call-printed asks.Connect = refl
call-printed asks.Accept = refl
call-printed (asks.Sendv bytes) = same-number (length bytes)
call-printed (asks.RecvDone bytes) = same-number bytes
call-printed asks.Close = refl

kind-printed : (input : Input) (clock : ℕ) (core : Option CoreId) (end : Option WireNo) (k : InputKind) → input_kind input clock core end ≡ Some k → is_kind input clock core end k ≡ true
kind-printed (inputs.Segment w seg) clock core end k e = segment-printed w core k e
kind-printed inputs.Timer clock core end k e = subst (λ (j : InputKind). is_kind inputs.Timer clock core end j ≡ true) (some_same (kinds.Timer clock) k e) (same-number clock)
kind-printed (inputs.Call ask) clock core end k e = subst (λ (j : InputKind). is_call_line ask j ≡ true) (some_same (call_kind ask) k e) (call-printed ask)
kind-printed inputs.Flush clock core end k e = flush-printed end k e

-- what a line is made of
record IsInput (kind : Option InputKind) (os : List (Option OutputLine)) (l : InputLine) : Type 0 where
  kind_is : kind ≡ Some l.kind
  outputs_are : present l.outputs ≡ os

input-made : (kind : Option InputKind) (os : List (Option OutputLine)) (l : InputLine) → line_with kind (all_present os) ≡ Some l → IsInput kind os l
input-made None os l e = absurd (cc)
input-made (Some k) os l e = by_case (all_present os) refl e
  where
    by_case : (o : Option (List OutputLine)) → all_present os ≡ o → option_map (λ ls. record { kind = k; outputs = ls }) o ≡ Some l → IsInput (Some k) os l
    by_case None is f = absurd (cc)
    by_case (Some ls) is f =
        let same : record { kind = k; outputs = ls } ≡ l = some_same _ l f in
        record { kind_is = ap (λ (x : InputLine). Some x.kind) same; outputs_are = ap (λ (x : InputLine). present x.outputs) (sym same) ∙ present-all os ls is }

module _ (entries : List EntryLine) (replies : List Reply) (local : Local) where
  input-printed : (group opening : ℕ) (ends : List (Option WireNo)) (at : ℕ) (e : JournalEntry) (l : InputLine) → input_line entries replies group opening ends at e ≡ Some l
      → is_input_line entries (end_at ends at) e l ≡ true
  input-printed group opening ends at e l is =
      let m : IsInput (input_kind e.input e.clock e.core (end_at ends at)) (given_lines entries replies group opening at e.input (end_at ends at) e.outputs) l = input-made _ _ l is in
      both_true (is_kind e.input e.clock e.core (end_at ends at) l.kind) (are_output_lines entries e.outputs l.outputs)
      (kind-printed e.input e.clock e.core (end_at ends at) l.kind m.kind_is)
      (outputs-printed entries e.outputs l.outputs (λ i o. output_line entries replies (key_at by_opening group opening at e.input (end_at ends at) i) o)
      (λ i o k. output-printed entries replies (key_at by_opening group opening at e.input (end_at ends at) i) o k) m.outputs_are)

  input-named : (group opening : ℕ) (ends : List (Option WireNo)) (at : ℕ) (e : JournalEntry) (l : InputLine) → input_line entries replies group opening ends at e ≡ Some l
      → input_numbers l ≡ numbers_among replies (input_replies by_opening local group opening ends at e)
  input-named group opening ends at e l is =
      let m : IsInput (input_kind e.input e.clock e.core (end_at ends at)) (given_lines entries replies group opening at e.input (end_at ends at) e.outputs) l = input-made _ _ l is in
      named replies output_number (λ i o. output_line entries replies (key_at by_opening group opening at e.input (end_at ends at) i) o)
      (λ i o. reply_of local (key_at by_opening group opening at e.input (end_at ends at) i) o)
      (λ i o k. output-named entries replies local (key_at by_opening group opening at e.input (end_at ends at) i) o k) 0 e.outputs l.outputs m.outputs_are

  -- ## A journal
  inputs-printed : (group opening : ℕ) (ends : List (Option WireNo)) (at : ℕ) (es : List JournalEntry) (ls : List InputLine)
      → present ls ≡ by_place (input_line entries replies group opening ends) at es → are_input_lines entries ends at es ls ≡ true
  inputs-printed group opening ends at [] [] e = refl
  inputs-printed group opening ends at [] (l ∷ ls) e = absurd (cc)
  inputs-printed group opening ends at (x ∷ es) [] e = absurd (cc)
  inputs-printed group opening ends at (x ∷ es) (l ∷ ls) e =
      let h : Head l ls (input_line entries replies group opening ends at x) (by_place (input_line entries replies group opening ends) (at + 1) es) = head-of l ls _ _ e in
      both_true (is_input_line entries (end_at ends at) x l) (are_input_lines entries ends (at + 1) es ls) (input-printed group opening ends at x l h.one)
      (inputs-printed group opening ends (at + 1) es ls h.rest)

  -- ## A connection
  conn-printed : (group order : ℕ) (c : ConnEnd) (l : ConnLine) → conn_line entries replies group order c ≡ Some l → is_journal entries c l ≡ true
  conn-printed group order c l e =
      let m : IsMade entries replies group order c l = made entries replies group order c l e in
      subst (λ (k : ConnLine). is_journal entries c k ≡ true) (sym m.is)
      (inputs-printed group (order + 1) c.ends 0 c.journal m.inputs (present-all (input_lines entries replies group order c) m.inputs m.there))

  conn-is : (group order : ℕ) (c : ConnEnd) (l : ConnLine) → conn_line entries replies group order c ≡ Some l → IsConnLine c l
  conn-is group order c l e =
      let m : IsMade entries replies group order c l = made entries replies group order c l e in
      subst (IsConnLine c) (sym m.is) (record { remote = refl; remote_port = refl; local_port = refl; iss = refl; left = refl; wrote = refl; taken = refl })

  conn-named : (group order : ℕ) (c : ConnEnd) (l : ConnLine) → conn_line entries replies group order c ≡ Some l → conn_numbers l ≡ numbers_among replies (opened_replies by_opening local group order c)
  conn-named group order c l e =
      let m : IsMade entries replies group order c l = made entries replies group order c l e in
      ap conn_numbers m.is
      ∙ named replies input_numbers (input_line entries replies group (order + 1) c.ends) (input_replies by_opening local group (order + 1) c.ends)
      (λ i x k. input-named group (order + 1) c.ends i x k) 0 c.journal m.inputs (present-all (input_lines entries replies group order c) m.inputs m.there)

  -- ## The connections of a group
  pub journals-printed : (group : ℕ) (cs : List ConnEnd) (ls : List ConnLine) → present ls ≡ by_place (conn_line entries replies group) 0 cs → are_journals entries cs ls ≡ true
  journals-printed group cs ls e =
      both_true (length cs == length ls) (list_all (λ (p : ConnEnd × ConnLine). is_journal entries p.0 p.1) (zip cs ls))
      (equal-numbers (length cs) (length ls) (length-present (conn_line entries replies group) 0 cs ls e))
      (zipped (is_journal entries) (conn_line entries replies group) (λ i c l. conn-printed group i c l) 0 cs ls e)

  pub conns-printed : (group at : ℕ) (cs : List ConnEnd) (ls : List ConnLine) → present ls ≡ by_place (conn_line entries replies group) at cs → AreConnLines cs ls
  conns-printed group at [] [] e = tt
  conns-printed group at [] (l ∷ ls) e = absurd (cc)
  conns-printed group at (c ∷ cs) [] e = absurd (cc)
  conns-printed group at (c ∷ cs) (l ∷ ls) e =
      let h : Head l ls (conn_line entries replies group at c) (by_place (conn_line entries replies group) (at + 1) cs) = head-of l ls _ _ e in
      (conn-is group at c l h.one, conns-printed group (at + 1) cs ls h.rest)

  pub conns-named : (group : ℕ) (cs : List ConnEnd) (ls : List ConnLine) → present ls ≡ by_place (conn_line entries replies group) 0 cs
      → flat_map conn_numbers ls ≡ numbers_among replies (placed (opened_replies by_opening local group) 0 cs)
  conns-named group cs ls e =
      named replies conn_numbers (conn_line entries replies group) (opened_replies by_opening local group) (λ i c l. conn-named group i c l) 0 cs ls e

-- ## Strays
answer-named : (replies : List Reply) (key : ReplyKey) (frame : Option (List ℕ)) → option_to_list (reply_number replies key frame) ≡ numbers_among replies (answered key frame)
answer-named replies key None = refl
answer-named replies key (Some frame) = refl

pub strays-named : (replies : List Reply) (group at : ℕ) (ss : List Stray)
    → flat_map stray_number (by_place (stray_line replies group) at ss) ≡ numbers_among replies (placed (stray_reply group) at ss)
strays-named replies group at [] = refl
strays-named replies group at (s ∷ ss) =
    ap (λ ns. ns ++ flat_map stray_number (by_place (stray_line replies group) (at + 1) ss)) (answer-named replies (stray_key group at s.w) s.reply)
    ∙ ap (λ ns. numbers_among replies (stray_reply group at s) ++ ns) (strays-named replies group (at + 1) ss)
    ∙ sym (map-append (λ (r : Reply). number_of replies r.key) (stray_reply group at s) (placed (stray_reply group) (at + 1) ss))
