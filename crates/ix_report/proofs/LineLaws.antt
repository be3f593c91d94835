-- Lines that are all there.
use Rattle.std.proofs.Common.{◌≡◌, ℕ, zero, suc, ◌+◌, ◌<◌, ◌++◌, refl, sym, ap, subst, ◌∙◌, List, [], ◌∷◌, length, get_or, map, arith}
use Rattle.std.specs.Prelude.{All, IsSome, Option, Some, None, option_map}
use Rattle.std.proofs.lemmas.List.{map-append}
use Rattle.ix_base.specs.declared.id.CoreId.{CoreId}
use Rattle.ix_base.specs.declared.id.WireNo.{WireNo}
use Rattle.ix_base.specs.declared.segment.Ret.{Ret}
use Rattle.ix_base.specs.declared.segment.Seg.{Seg}
use Rattle.ix_base.specs.declared.segment.Ret.TheVariants as returns
use Rattle.ix_groupdef.specs.declared.types.ConnEnd.{ConnEnd}
use Rattle.ix_groupdef.specs.declared.types.GroupRecord.{GroupRecord}
use Rattle.ix_groupdef.specs.declared.types.JournalEntry.{JournalEntry}
use Rattle.ix_groupdef.specs.Sent.{CanBeWritten, IsCallAnswer}
use Rattle.ix_groupdef.specs.Whole.{AreWhole, HasCore, HasEnd}
use Rattle.ix_lines.specs.Words.{text_of}
use Rattle.ix_lines.specs.declared.line.Line.{Line}
use Rattle.ix_lines.specs.declared.line.Line.TheVariants as lines
use Rattle.ix_lines.specs.declared.types.InputKind.TheVariants as kinds
use Rattle.ix_lines.specs.declared.types.OutputLine.TheVariants as given
use Rattle.ix_lines.specs.declared.types.RetLine.TheVariants as rets
use Rattle.ix_tcpdef.specs.declared.types.Input.{Input}
use Rattle.ix_tcpdef.specs.declared.types.Input.TheVariants as inputs
use Rattle.ix_tcpdef.specs.declared.types.Output.{Output}
use Rattle.ix_tcpdef.specs.declared.types.Output.TheVariants as outputs
use Rattle.ix_playdef.specs.Order.{number_of}
use Rattle.ix_playdef.specs.Placed.{placed}
use Rattle.ix_playdef.specs.Replies.{CanAllBeWritten, CanBeTold, FitsGroup, IsWhole, Places, end_at, key_at}
use Rattle.ix_playdef.specs.declared.order.Reply.{Reply}
use Rattle.ix_playdef.specs.declared.order.ReplyKey.{ReplyKey}
use Rattle.ix_report.specs.Lines.{all_present, call_kind, conn_lines, given_line, group_lines, input_line, input_lines, lines_of, opening_of, present, ret_line, short_text, told_line}
use Rattle.ix_report.specs.declared.report.Report.{Report}
use Rattle.ix_report.specs.declared.text.TheConstants.{BEGINNING}

pub present-push : (ls : List Line) (l : Line) → present (ls ++ l ∷ []) ≡ present ls ++ Some l ∷ []
present-push ls l = map-append Some ls (l ∷ [])

pub all-present : (ls : List Line) → all_present (present ls) ≡ Some ls
all-present [] = refl
all-present (l ∷ ls) = ap (option_map (λ rest. l ∷ rest)) (all-present ls)

pub ruleset for_push = (present-push)

pub ruleset for_text = (all-present)

-- What fits can be told.
pub told_by_fit : (xs ys : List GroupRecord) → ys ≡ xs → All FitsGroup xs → All CanBeTold ys
told_by_fit xs ys same fit = subst (All CanBeTold) (sym same) (λ k d lt. (fit k d lt).told)

pub core_there : (w : WireNo) (seg : Seg) (core : Option CoreId) → HasCore (inputs.Segment w seg) core → IsSome core
core_there w seg None has = absurd has
core_there w seg (Some core) has = refl

pub end_there : (end : Option WireNo) → HasEnd inputs.Flush end → IsSome end
end_there None has = absurd has
end_there (Some w) has = refl

pub ruleset for_kinds = (core_there, end_there)

-- ## Entries of a journal whose segments have their cores, and whose flushes have the last entries of their cycles
pub whole-at : (es : List JournalEntry) (ends : List (Option WireNo)) (i : ℕ) (d : JournalEntry) → AreWhole es ends → i < length es
    → HasCore (get_or es i d).input (get_or es i d).core × HasEnd (get_or es i d).input (end_at ends i)
whole-at [] ends i d whole lt = absurd (omega arith)
whole-at (e ∷ es) [] i d whole lt = absurd whole
whole-at (e ∷ es) (end ∷ ends) zero d whole lt = (whole.0, whole.1)
whole-at (e ∷ es) (end ∷ ends) (suc i) d whole lt = whole-at es ends i d whole.2 (omega (arith, lt))

-- ## Where each part has its lines
record HasLines (ls : List (Option Line)) : Type 0 where
  found : List Line
  same : ls ≡ present found

has-append : (xs ys : List (Option Line)) → HasLines xs → HasLines ys → HasLines (xs ++ ys)
has-append xs ys a b = record { found = a.found ++ b.found; same = ap (λ zs. zs ++ ys) a.same ∙ ap (λ zs. present a.found ++ zs) b.same ∙ sym (map-append Some a.found b.found) }

has-cons : (l : Line) (ls : List (Option Line)) → HasLines ls → HasLines (Some l ∷ ls)
has-cons l ls a = record { found = l ∷ a.found; same = ap (λ zs. Some l ∷ zs) a.same }

has-none : HasLines []
has-none = record { found = []; same = refl }

has-placed : {A : Type 0} (P : ℕ → A → Type 0) (f : ℕ → A → List (Option Line)) → ((i : ℕ) (x : A) → P i x → HasLines (f i x)) → (at : ℕ) (xs : List A)
    → ((i : ℕ) (d : A) → i < length xs → P (at + i) (get_or xs i d)) → HasLines (placed f at xs)
has-placed P f each at [] all = has-none
has-placed P f each at (x ∷ xs) all =
    has-append (f at x) (placed f (at + 1) xs)
    (each at x (subst (λ n. P n x) (let here : at + zero ≡ at = omega arith in here) (all zero x (omega arith))))
    (has-placed P f each (at + 1) xs (λ i d lt. subst (λ n. P n (get_or xs i d)) (let next : at + suc i ≡ (at + 1) + i = omega arith in next) (all (suc i) d (omega (arith, lt)))))

-- ## A report whose groups can be told
ret-has : (r : Ret) → IsCallAnswer r → HasLines (option_map lines.Output (option_map given.Ret (ret_line r)) ∷ [])
ret-has (returns.Done n) can = has-cons (lines.Output (given.Ret (rets.Done n))) [] has-none
ret-has returns.BadHandle can = has-cons (lines.Output (given.Ret rets.BadHandle)) [] has-none
ret-has returns.NotKnocked can = has-cons (lines.Output (given.Ret rets.NotKnocked)) [] has-none
ret-has returns.NotOpen can = has-cons (lines.Output (given.Ret rets.NotOpen)) [] has-none
ret-has returns.TooMuch can = has-cons (lines.Output (given.Ret rets.TooMuch)) [] has-none
ret-has returns.NoNeighbour can = absurd can
ret-has returns.NoPort can = absurd can
ret-has returns.TableFull can = absurd can

output-has : (replies : List Reply) (key : ReplyKey) (o : Output) → CanBeWritten o → HasLines (given_line replies key o ∷ [])
output-has replies key (outputs.Frame seg) can = has-cons (lines.Output (given.Reply (number_of replies key))) [] has-none
output-has replies key (outputs.Told told) can = has-cons (lines.Output (told_line told)) [] has-none
output-has replies key (outputs.Ret r) can = ret-has r can

input-has : (input : Input) (clock : ℕ) (core : Option CoreId) (end : Option WireNo) (ls : List (Option Line)) → HasCore input core → HasEnd input end → HasLines ls
    → HasLines (input_line input clock core end ∷ ls)
input-has (inputs.Segment w seg) clock None end ls has ends a = absurd has
input-has (inputs.Segment w seg) clock (Some core) end ls has ends a = has-cons (lines.Input (kinds.Seg w core)) ls a
input-has inputs.Timer clock core end ls has ends a = has-cons (lines.Input (kinds.Timer clock)) ls a
input-has (inputs.Call ask) clock core end ls has ends a = has-cons (lines.Input (call_kind ask)) ls a
input-has inputs.Flush clock core None ls has ends a = absurd ends
input-has inputs.Flush clock core (Some w) ls has ends a = has-cons (lines.Input (kinds.Flush w)) ls a

record Tells (ends : List (Option WireNo)) (at : ℕ) (e : JournalEntry) : Type 0 where
  core : HasCore e.input e.core
  end : HasEnd e.input (end_at ends at)
  written : All CanBeWritten e.outputs

module _ (places : Places) (replies : List Reply) where
  entry-has : (group opening : ℕ) (ends : List (Option WireNo)) (at : ℕ) (e : JournalEntry) → Tells ends at e → HasLines (input_lines places replies group opening ends at e)
  entry-has group opening ends at e t =
      let f : ℕ → Output → List (Option Line) = λ output o. given_line replies (key_at places group opening at e.input (end_at ends at) output) o ∷ [] in
      input-has e.input e.clock e.core (end_at ends at) (placed f 0 e.outputs) t.core t.end
      (has-placed (λ i o. CanBeWritten o) f (λ i o can. output-has replies (key_at places group opening at e.input (end_at ends at) i) o can) 0 e.outputs (λ i d lt. t.written i d lt))

  conn-has : (group at : ℕ) (c : ConnEnd) → CanAllBeWritten c → IsWhole c → HasLines (conn_lines places replies group at c)
  conn-has group at c written whole =
      let last : List (Option Line) = Some (lines.Left c.left) ∷ Some (lines.Answer c.wrote c.taken) ∷ [] in
      let journal : List (Option Line) = placed (input_lines places replies group (at + 1) c.ends) 0 c.journal in
      has-cons (lines.Conn at (opening_of group c)) (journal ++ last)
      (has-append journal last
      (has-placed (Tells c.ends) (input_lines places replies group (at + 1) c.ends) (entry-has group (at + 1) c.ends) 0 c.journal
      (λ i d lt.
      let at_i = whole-at c.journal c.ends i d whole lt in
      let here : Tells c.ends i (get_or c.journal i d) = record { core = at_i.0; end = at_i.1; written = written i d lt } in
      subst (λ n. Tells c.ends n (get_or c.journal i d)) (let same : i ≡ 0 + i = omega arith in same) here))
      (has-cons (lines.Left c.left) (Some (lines.Answer c.wrote c.taken) ∷ []) (has-cons (lines.Answer c.wrote c.taken) [] has-none)))

  group-has : (group : ℕ) (r : GroupRecord) → CanBeTold r → HasLines (group_lines places replies group r)
  group-has group r told =
      has-placed (λ i c. CanAllBeWritten c × IsWhole c) (conn_lines places replies group) (λ i c can. conn-has group i c can.0 can.1) 0 r.conns (λ i d lt. (told.written i d lt, told.whole i d lt))

  all-have : (groups : List GroupRecord) → All CanBeTold groups → HasLines (placed (group_lines places replies) 0 groups)
  all-have groups told = has-placed (λ i r. CanBeTold r) (group_lines places replies) (λ i r can. group-has i r can) 0 groups (λ i d lt. told i d lt)

report-has : (places : Places) (r : Report) → All CanBeTold r.groups → HasLines (lines_of places r)
report-has places r told =
    let end : List (Option Line) = Some (lines.End (length r.replies) r.drops) ∷ [] in
    has-append (present (map lines.Stray r.strays)) (placed (group_lines places r.replies) 0 r.groups ++ end) (record { found = map lines.Stray r.strays; same = refl })
    (has-append (placed (group_lines places r.replies) 0 r.groups) end (all-have places r.replies r.groups told) (has-cons (lines.End (length r.replies) r.drops) [] has-none))

text-is : (o : Option (List Line)) (ls : List Line) → o ≡ Some ls → IsSome (option_map (λ ks. BEGINNING.now ++ text_of ks) o)
text-is o ls e = subst (λ p. IsSome (option_map (λ ks. BEGINNING.now ++ text_of ks) p)) (sym e) refl

pub has_text : (places : Places) (r : Report) → All CanBeTold r.groups → IsSome (short_text places r)
unfolding short_text
has_text places r told =
    let has : HasLines (lines_of places r) = report-has places r told in
    text-is (all_present (lines_of places r)) has.found (ap all_present has.same ∙ all-present has.found)
