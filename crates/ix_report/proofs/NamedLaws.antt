-- Each record of the replies is named once.
use Rattle.std.proofs.Common.{◌≡◌, ℕ, zero, suc, ◌+◌, ◌<◌, ◌≤◌, refl, sym, ap, ◌∙◌, Bool, true, false, List, [], ◌∷◌, ◌++◌, length, map, arith, inl, inr}
use Rattle.std.specs.Prelude.{◌==◌, cond, count_by, if◌then◌else◌, nat_lt, Option, Some, None, option_map}
use Rattle.std.specs.List.{range_with_len}
use Rattle.std.specs.List.Sorted.{IsPermutation}
use Rattle.std.proofs.lemmas.Bool.{cases_eq, cases_lt}
use Rattle.std.proofs.lemmas.Bool.Decides.{nat_tests}
use Rattle.std.proofs.lemmas.List.Sorted.{sum_by-IsPermutation}
use Rattle.std.proofs.lemmas.List.Sums.{sum_by-append, sum_by-cons}
use Rattle.ix_base.specs.declared.frame.Local.{Local}
use Rattle.ix_base.specs.declared.id.WireNo.{WireNo}
use Rattle.ix_base.specs.declared.segment.Ret.{Ret}
use Rattle.ix_base.specs.declared.segment.Ret.TheVariants as returns
use Rattle.ix_groupdef.specs.declared.types.ConnEnd.{ConnEnd}
use Rattle.ix_groupdef.specs.declared.types.GroupRecord.{GroupRecord}
use Rattle.ix_groupdef.specs.declared.types.JournalEntry.{JournalEntry}
use Rattle.ix_groupdef.specs.declared.types.Stray.{Stray}
use Rattle.ix_lines.specs.declared.line.Line.{Line}
use Rattle.ix_lines.specs.declared.line.Line.TheVariants as lines
use Rattle.ix_lines.specs.declared.types.InputKind.{InputKind}
use Rattle.ix_lines.specs.declared.types.OutputLine.TheVariants as given
use Rattle.ix_lines.specs.declared.types.StrayLine.{StrayLine}
use Rattle.ix_tcpdef.specs.declared.types.Output.{Output}
use Rattle.ix_tcpdef.specs.declared.types.Output.TheVariants as outputs
use Rattle.ix_tcpdef.specs.declared.types.Told.{Told}
use Rattle.ix_tcpdef.specs.declared.types.Told.TheVariants as told
use Rattle.ix_playdef.specs.Order.{number_of, numbers_among}
use Rattle.ix_playdef.specs.Placed.{placed}
use Rattle.ix_playdef.specs.Replies.{Places, all_replies, answered, end_at, input_replies, key_at, opened_replies, reply_of, stray_key, stray_reply}
use Rattle.ix_playdef.specs.declared.order.Reply.{Reply}
use Rattle.ix_playdef.specs.declared.order.ReplyKey.{ReplyKey}
use Rattle.ix_report.specs.Lines.{all_strays, conn_lines, given_line, group_lines, group_strays, input_kind, input_line, input_lines, lines_of, one_stray, opening_of, present, reply_number, ret_line, told_line}
use Rattle.ix_report.specs.Named.{NamesEachOnce, answer_names, names, names_if_any, output_names}
use Rattle.ix_report.specs.declared.report.Report.{Report}

-- ## Counts
module _ {B : Type 0} (p : B → Bool) where
  count-cons : (x : B) (xs : List B) → count_by p (x ∷ xs) ≡ cond (p x) 1 0 + count_by p xs
  count-cons x xs = sum_by-cons (λ y. cond (p y) 1 0) x xs

  count-append : (xs ys : List B) → count_by p (xs ++ ys) ≡ count_by p xs + count_by p ys
  count-append xs ys = sum_by-append (λ y. cond (p y) 1 0) xs ys

  count-moved : (xs ys : List B) → IsPermutation xs ys → count_by p ys ≡ count_by p xs
  count-moved xs ys moved = sum_by-IsPermutation (λ y. cond (p y) 1 0) xs ys moved

  count-no : (x : B) (xs : List B) → p x ≡ false → count_by p (x ∷ xs) ≡ count_by p xs
  count-no x xs e = omega (arith, count-cons x xs, ap {B = ℕ} (λ (b : Bool). cond b 1 0) e)

  count-yes : (x : B) (xs : List B) → p x ≡ true → count_by p (x ∷ xs) ≡ 1 + count_by p xs
  count-yes x xs e = omega (arith, count-cons x xs, ap {B = ℕ} (λ (b : Bool). cond b 1 0) e)

count-map : {A B : Type 0} (p : B → Bool) (f : A → B) (xs : List A) → count_by p (map f xs) ≡ count_by (λ x. p (f x)) xs
count-map p f [] = refl
count-map p f (x ∷ xs) = omega (arith, count-cons p (f x) (map f xs), count-cons (λ y. p (f y)) x xs, count-map p f xs)

-- what two functions give of elements by their places, where they give alike of each
count-placed : {A B C : Type 0} (p : B → Bool) (q : C → Bool) (f : ℕ → A → List B) (g : ℕ → A → List C)
    → ((i : ℕ) (x : A) → count_by p (f i x) ≡ count_by q (g i x)) → (at : ℕ) (xs : List A) → count_by p (placed f at xs) ≡ count_by q (placed g at xs)
count-placed p q f g alike at [] = refl
count-placed p q f g alike at (x ∷ xs) =
    omega (arith, count-append p (f at x) (placed f (at + 1) xs), count-append q (g at x) (placed g (at + 1) xs), alike at x, count-placed p q f g alike (at + 1) xs)

-- what is given in two parts
count-parts : {A B : Type 0} (p : B → Bool) (f g : ℕ → A → List B) (at : ℕ) (xs : List A)
    → count_by p (placed (λ i x. f i x ++ g i x) at xs) ≡ count_by p (placed f at xs) + count_by p (placed g at xs)
count-parts p f g at [] = refl
count-parts p f g at (x ∷ xs) =
    omega (
      arith,
      count-append p (f at x ++ g at x) (placed (λ i y. f i y ++ g i y) (at + 1) xs),
      count-append p (f at x) (g at x),
      count-append p (f at x) (placed f (at + 1) xs),
      count-append p (g at x) (placed g (at + 1) xs),
      count-parts p f g (at + 1) xs,
    )

-- ## A number among the first ones
count-below : (n a k : ℕ) → n < a → count_by (λ m. m == n) (range_with_len a k) ≡ 0
count-below n a zero lt = refl
count-below n a (suc k) lt =
    let no : (a == n) ≡ false = grind (arith, nat_tests, lt) in
    count-no (λ m. m == n) a (range_with_len (a + 1) k) no ∙ count-below n (a + 1) k (omega arith)

count-past : (n a k : ℕ) → a + k ≤ n → count_by (λ m. m == n) (range_with_len a k) ≡ 0
count-past n a zero le = refl
count-past n a (suc k) le =
    let no : (a == n) ≡ false = grind (arith, nat_tests, le) in
    count-no (λ m. m == n) a (range_with_len (a + 1) k) no ∙ count-past n (a + 1) k (omega arith)

count-within : (n a k : ℕ) → a ≤ n → n < a + k → count_by (λ m. m == n) (range_with_len a k) ≡ 1
count-within n a zero le lt = absurd (omega arith)
count-within n a (suc k) le lt = elim (cases_eq a n) [
  | inl same ↦ (let yes : (a == n) ≡ true = grind (arith, nat_tests, same) in
      omega (arith, count-yes (λ m. m == n) a (range_with_len (a + 1) k) yes, count-below n (a + 1) k (omega arith)))
  | inr other ↦ (let no : (a == n) ≡ false = grind (arith, nat_tests, other) in
      count-no (λ m. m == n) a (range_with_len (a + 1) k) no ∙ count-within n (a + 1) k (omega arith) (omega arith))
]

count-first : (n k : ℕ) → count_by (λ m. m == n) (range_with_len 0 k) ≡ (if nat_lt n k then 1 else 0)
count-first n k = elim (cases_lt n k) [
  | inl within ↦ (let yes : nat_lt n k ≡ true = grind (arith, nat_tests, within) in count-within n 0 k (omega arith) (omega arith) ∙ sym (ap (λ (b : Bool). if b then 1 else 0) yes))
  | inr past ↦ (let no : nat_lt n k ≡ false = grind (arith, nat_tests, past) in count-past n 0 k (omega arith) ∙ sym (ap (λ (b : Bool). if b then 1 else 0) no))
]

-- ## Lines beside replies
-- whether a reply has this number
abbrev has : List Reply → ℕ → Reply → Bool
has replies n r = number_of replies r.key == n

told-unnamed : (n : ℕ) (t : Told) → output_names n (told_line t) ≡ false
told-unnamed n told.Knock = refl
told-unnamed n told.ConnectedUp = refl
told-unnamed n told.ConnectedRefused = refl
told-unnamed n told.ConnectedTimeout = refl
told-unnamed n (told.Recv w from len) = refl
told-unnamed n told.RecvEnd = refl
told-unnamed n (told.Sent bytes window) = refl
told-unnamed n told.DeadReset = refl
told-unnamed n told.DeadTimeout = refl

ret-unnamed : (n : ℕ) (r : Ret) → names_if_any n (option_map lines.Output (option_map given.Ret (ret_line r))) ≡ false
ret-unnamed n (returns.Done bytes) = refl
ret-unnamed n returns.BadHandle = refl
ret-unnamed n returns.NotKnocked = refl
ret-unnamed n returns.NotOpen = refl
ret-unnamed n returns.TooMuch = refl
ret-unnamed n returns.NoNeighbour = refl
ret-unnamed n returns.NoPort = refl
ret-unnamed n returns.TableFull = refl

kind-unnamed : (n : ℕ) (kind : Option InputKind) → names_if_any n (option_map lines.Input kind) ≡ false
kind-unnamed n None = refl
kind-unnamed n (Some kind) = refl

module _ (places : Places) (replies : List Reply) (n : ℕ) (local : Local) where
  output-named : (key : ReplyKey) (o : Output) → count_by (names_if_any n) (given_line replies key o ∷ []) ≡ count_by (has replies n) (reply_of local key o)
  output-named key (outputs.Frame seg) = refl
  output-named key (outputs.Told t) = count-no (names_if_any n) (given_line replies key (outputs.Told t)) [] (told-unnamed n t)
  output-named key (outputs.Ret r) = count-no (names_if_any n) (given_line replies key (outputs.Ret r)) [] (ret-unnamed n r)

  input-named : (group opening : ℕ) (ends : List (Option WireNo)) (at : ℕ) (e : JournalEntry)
      → count_by (names_if_any n) (input_lines places replies group opening ends at e) ≡ count_by (has replies n) (input_replies places local group opening ends at e)
  input-named group opening ends at e =
      let lines_given : ℕ → Output → List (Option Line) = λ output o. given_line replies (key_at places group opening at e.input (end_at ends at) output) o ∷ [] in
      count-no (names_if_any n) (input_line e.input e.clock e.core (end_at ends at)) (placed lines_given 0 e.outputs) (kind-unnamed n (input_kind e.input e.clock e.core (end_at ends at)))
      ∙ count-placed (names_if_any n) (has replies n) lines_given (λ output o. reply_of local (key_at places group opening at e.input (end_at ends at) output) o)
      (λ output o. output-named (key_at places group opening at e.input (end_at ends at) output) o) 0 e.outputs

  conn-named : (group at : ℕ) (c : ConnEnd) → count_by (names_if_any n) (conn_lines places replies group at c) ≡ count_by (has replies n) (opened_replies places local group at c)
  conn-named group at c =
      let journal : List (Option Line) = placed (input_lines places replies group (at + 1) c.ends) 0 c.journal in
      let last : List (Option Line) = Some (lines.Left c.left) ∷ Some (lines.Answer c.wrote c.taken) ∷ [] in
      count-no (names_if_any n) (Some (lines.Conn at (opening_of group c))) (journal ++ last) refl
      ∙ (let parts : count_by (names_if_any n) (journal ++ last) ≡ count_by (names_if_any n) journal + 0 = count-append (names_if_any n) journal last in omega (arith, parts))
      ∙ count-placed (names_if_any n) (has replies n) (input_lines places replies group (at + 1) c.ends) (input_replies places local group (at + 1) c.ends)
      (input-named group (at + 1) c.ends) 0 c.journal

  answer-named : (key : ReplyKey) (frame : Option (List ℕ)) → 0 + cond (answer_names n (reply_number replies key frame)) 1 0 ≡ count_by (has replies n) (answered key frame)
  answer-named key (Some frame) = refl
  answer-named key None = refl

  stray-named : (group at : ℕ) (s : Stray) → count_by (λ (l : StrayLine). names n (lines.Stray l)) (one_stray replies group at s) ≡ count_by (has replies n) (stray_reply group at s)
  stray-named group at s = answer-named (stray_key group at s.w) s.reply

  -- in which the strays of all groups stand in front
  all-named : (groups : List GroupRecord)
      → count_by (λ (l : StrayLine). names n (lines.Stray l)) (all_strays replies groups) + count_by (names_if_any n) (placed (group_lines places replies) 0 groups)
      ≡ count_by (has replies n) (all_replies places local groups)
  all-named groups =
      let answers : ℕ → GroupRecord → List Reply = λ group r. placed (stray_reply group) 0 r.strays in
      let frames : ℕ → GroupRecord → List Reply = λ group r. placed (opened_replies places local group) 0 r.conns in
      let is_named : StrayLine → Bool = λ l. names n (lines.Stray l) in
      let strays : count_by is_named (all_strays replies groups) ≡ count_by (has replies n) (placed answers 0 groups) =
      count-placed is_named (has replies n) (group_strays replies) answers
      (λ group r. count-placed is_named (has replies n) (one_stray replies group) (stray_reply group) (stray-named group) 0 r.strays) 0 groups in
      let conns : count_by (names_if_any n) (placed (group_lines places replies) 0 groups) ≡ count_by (has replies n) (placed frames 0 groups) =
      count-placed (names_if_any n) (has replies n) (group_lines places replies) frames
      (λ group r. count-placed (names_if_any n) (has replies n) (conn_lines places replies group) (opened_replies places local group) (conn-named group) 0 r.conns) 0 groups in
      let parts : count_by (has replies n) (all_replies places local groups) ≡ count_by (has replies n) (placed answers 0 groups) + count_by (has replies n) (placed frames 0 groups) =
      count-parts (has replies n) answers frames 0 groups in
      omega (arith, strays, conns, parts)

-- ## A report
has-once : (replies : List Reply) (n : ℕ) → numbers_among replies replies ≡ range_with_len 0 (length replies)
    → count_by (has replies n) replies ≡ (if nat_lt n (length replies) then 1 else 0)
has-once replies n numbered =
    sym (count-map (λ m. m == n) (λ (r : Reply). number_of replies r.key) replies) ∙ ap (count_by (λ m. m == n)) numbered ∙ count-first n (length replies)

one-line : (places : Places) (local : Local) (r : Report)
    → IsPermutation (all_replies places local r.groups) r.replies → numbers_among r.replies r.replies ≡ range_with_len 0 (length r.replies) → IsPermutation (all_strays r.replies r.groups) r.strays
    → (n : ℕ) → count_by (names_if_any n) (lines_of places r) ≡ (if nat_lt n (length r.replies) then 1 else 0)
one-line places local r same numbered moved n =
    let is_named : StrayLine → Bool = λ l. names n (lines.Stray l) in
    let strays : List (Option Line) = present (map lines.Stray r.strays) in
    let entries : List (Option Line) = placed (group_lines places r.replies) 0 r.groups in
    let end : List (Option Line) = Some (lines.End (length r.replies) r.drops) ∷ [] in
    let front : count_by (names_if_any n) (strays ++ (entries ++ end)) ≡ count_by (names_if_any n) strays + count_by (names_if_any n) (entries ++ end) =
    count-append (names_if_any n) strays (entries ++ end) in
    let back : count_by (names_if_any n) (entries ++ end) ≡ count_by (names_if_any n) entries + 0 = count-append (names_if_any n) entries end in
    let by_strays : count_by (names_if_any n) strays ≡ count_by is_named (all_strays r.replies r.groups) =
    count-map (names_if_any n) Some (map lines.Stray r.strays) ∙ count-map (names n) lines.Stray r.strays ∙ count-moved is_named (all_strays r.replies r.groups) r.strays moved in
    let all : count_by is_named (all_strays r.replies r.groups) + count_by (names_if_any n) entries ≡ count_by (has r.replies n) (all_replies places local r.groups) = all-named places r.replies n local r.groups in
    let kept : count_by (has r.replies n) r.replies ≡ count_by (has r.replies n) (all_replies places local r.groups) = count-moved (has r.replies n) (all_replies places local r.groups) r.replies same in
    let sum : count_by (names_if_any n) (strays ++ (entries ++ end)) ≡ count_by (has r.replies n) r.replies = omega (arith, front, back, by_strays, all, kept) in
    sum ∙ has-once r.replies n numbered

pub named-once : (places : Places) (local : Local) (r : Report)
    → IsPermutation (all_replies places local r.groups) r.replies → numbers_among r.replies r.replies ≡ range_with_len 0 (length r.replies) → IsPermutation (all_strays r.replies r.groups) r.strays
    → NamesEachOnce places r
named-once places local r same numbered moved = record { count = one-line places local r same numbered moved }
