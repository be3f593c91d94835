-- The lines that a reader has read, and what one more adds to each list.
use Rattle.std.proofs.Common.{◌≡◌, ℕ, suc, ◌+◌, ◌-◌, ◌<◌, List, [], ◌∷◌, ◌++◌, length, refl, ap, sym, ◌∙◌, arith, append_assoc}
use Rattle.ix_lines.specs.declared.line.Line.{Line}
use Rattle.ix_lines.specs.declared.line.Line.TheVariants as lines
use Rattle.ix_lines.specs.declared.types.RingLine.{RingLine}
use Rattle.ix_lines.specs.declared.types.HomeLine.{HomeLine}
use Rattle.ix_lines.specs.declared.types.SettleLine.{SettleLine}
use Rattle.ix_lines.specs.declared.types.ConnectLine.{ConnectLine}
use Rattle.ix_lines.specs.declared.types.EntryLine.{EntryLine}
use Rattle.ix_lines.specs.declared.types.EntryLine.TheVariants as entries
use Rattle.ix_lines.specs.declared.types.StrayLine.{StrayLine}
use Rattle.ix_lines.specs.declared.types.OutputLine.{OutputLine}
use Rattle.ix_lines.specs.declared.types.InputLine.{InputLine}
use Rattle.ix_lines.specs.declared.types.ConnLine.{ConnLine}
use Rattle.ix_trace.specs.declared.sheet.Draft.{Draft}
use Rattle.ix_trace.specs.declared.progress.Progress.{Progress}
use Rattle.ix_trace.specs.declared.progress.Progress.TheVariants as states
use Rattle.ix_trace.specs.Sheet.{ring_lines, home_lines, settle_lines, open_lines, later, connect_lines, entry_lines, stray_lines, output_lines, input_lines, Last, order_of, with_last, last_of, opening_of, conn_lines, closed_lines, body_lines, sheet_lines, count_settles}

-- the place of the connection that is open, among those of its group
abbrev pub place_in : Draft → ℕ
place_in d = length d.sheet.conns - d.begin

abbrev pub so_far : Progress → List Line
so_far states.AtHead = []
so_far (states.AtOpen h) = lines.Head h ∷ []
so_far (states.InFirst h s) = lines.Head h ∷ lines.Open ∷ settle_lines s
so_far (states.Between d) = body_lines d.sheet
so_far (states.InSettle d s) = body_lines d.sheet ++ lines.Entry (length d.sheet.entries) entries.Settle ∷ settle_lines s
so_far (states.InConn d o is) = body_lines d.sheet ++ lines.Conn (place_in d) o ∷ input_lines is
so_far (states.InInput d o is k os) = body_lines d.sheet ++ lines.Conn (place_in d) o ∷ input_lines is ++ lines.Input k ∷ output_lines os
so_far (states.AtAnswer d o is f) = body_lines d.sheet ++ lines.Conn (place_in d) o ∷ input_lines is ++ lines.Left f ∷ []
so_far (states.Done s) = sheet_lines s

pub rings-append : (k : ℕ) (xs ys : List RingLine) → ring_lines k (xs ++ ys) ≡ ring_lines k xs ++ ring_lines (k + length xs) ys
rings-append k [] ys = let e : k ≡ k + 0 = omega arith in ap (λ n. ring_lines n ys) e
rings-append k (x ∷ xs) ys =
    let e : (k + 1) + length xs ≡ k + suc (length xs) = omega arith in
    ap (λ r. lines.Ring k x ∷ r) (rings-append (k + 1) xs ys ∙ ap (λ n. ring_lines (k + 1) xs ++ ring_lines n ys) e)

pub homes-append : (k : ℕ) (xs ys : List HomeLine) → home_lines k (xs ++ ys) ≡ home_lines k xs ++ home_lines (k + length xs) ys
homes-append k [] ys = let e : k ≡ k + 0 = omega arith in ap (λ n. home_lines n ys) e
homes-append k (x ∷ xs) ys =
    let e : (k + 1) + length xs ≡ k + suc (length xs) = omega arith in
    ap (λ r. lines.Home k x ∷ r) (homes-append (k + 1) xs ys ∙ ap (λ n. home_lines (k + 1) xs ++ home_lines n ys) e)

pub connects-append : (k : ℕ) (xs ys : List ConnectLine) → connect_lines k (xs ++ ys) ≡ connect_lines k xs ++ connect_lines (k + length xs) ys
connects-append k [] ys = let e : k ≡ k + 0 = omega arith in ap (λ n. connect_lines n ys) e
connects-append k (x ∷ xs) ys =
    let e : (k + 1) + length xs ≡ k + suc (length xs) = omega arith in
    ap (λ r. lines.Connect k x ∷ r) (connects-append (k + 1) xs ys ∙ ap (λ n. connect_lines (k + 1) xs ++ connect_lines n ys) e)

pub closed-append : (k : ℕ) (xs ys : List ℕ) → closed_lines k (xs ++ ys) ≡ closed_lines k xs ++ closed_lines (k + length xs) ys
closed-append k [] ys = let e : k ≡ k + 0 = omega arith in ap (λ n. closed_lines n ys) e
closed-append k (x ∷ xs) ys =
    let e : (k + 1) + length xs ≡ k + suc (length xs) = omega arith in
    ap (λ r. lines.Closed k x ∷ r) (closed-append (k + 1) xs ys ∙ ap (λ n. closed_lines (k + 1) xs ++ closed_lines n ys) e)

pub strays-append : (xs ys : List StrayLine) → stray_lines (xs ++ ys) ≡ stray_lines xs ++ stray_lines ys
strays-append [] ys = refl
strays-append (x ∷ xs) ys = ap (λ r. lines.Stray x ∷ r) (strays-append xs ys)

pub outputs-append : (xs ys : List OutputLine) → output_lines (xs ++ ys) ≡ output_lines xs ++ output_lines ys
outputs-append [] ys = refl
outputs-append (x ∷ xs) ys = ap (λ r. lines.Output x ∷ r) (outputs-append xs ys)

pub inputs-append : (xs ys : List InputLine) → input_lines (xs ++ ys) ≡ input_lines xs ++ input_lines ys
inputs-append [] ys = refl
inputs-append (x ∷ xs) ys =
    ap (λ r. lines.Input x.kind ∷ output_lines x.outputs ++ r) (inputs-append xs ys)
    ∙ sym (append_assoc (lines.Input x.kind ∷ output_lines x.outputs) (input_lines xs) (input_lines ys))

pub conns-append : (p : Last) (xs ys : List ConnLine) → conn_lines p (xs ++ ys) ≡ conn_lines p xs ++ conn_lines (last_of p xs) ys
conns-append p [] ys = refl
conns-append p (x ∷ xs) ys =
    ap (λ r. lines.Conn (order_of p x.group.0) (opening_of x) ∷ input_lines x.inputs ++ lines.Left x.left ∷ lines.Answer x.wrote x.taken ∷ r) (conns-append (with_last p x.group.0) xs ys)
    ∙ sym (append_assoc (lines.Conn (order_of p x.group.0) (opening_of x) ∷ input_lines x.inputs)
    (lines.Left x.left ∷ lines.Answer x.wrote x.taken ∷ conn_lines (with_last p x.group.0) xs) (conn_lines (last_of (with_last p x.group.0) xs) ys))

pub last_of-append : (p : Last) (xs ys : List ConnLine) → last_of p (xs ++ ys) ≡ last_of (last_of p xs) ys
last_of-append p [] ys = refl
last_of-append p (x ∷ xs) ys = last_of-append (with_last p x.group.0) xs ys

pub entries-append : (w : ℕ) (xs ys : List EntryLine) (ss ts : List SettleLine) → length ss ≡ count_settles xs
    → entry_lines w (xs ++ ys) (ss ++ ts) ≡ entry_lines w xs ss ++ entry_lines (w + length xs) ys ts
entries-append w [] ys [] ts h = let e : w ≡ w + 0 = omega arith in ap (λ n. entry_lines n ys ts) e
entries-append w [] ys (s ∷ ss) ts h = absurd (omega arith)
entries-append w (entries.Settle ∷ xs) ys [] ts h = absurd (omega arith)
entries-append w (entries.Settle ∷ xs) ys (s ∷ ss) ts h =
    let e : (w + 1) + length xs ≡ w + suc (length xs) = omega arith in
    ap (λ r. lines.Entry w entries.Settle ∷ settle_lines s ++ r) (entries-append (w + 1) xs ys ss ts (omega arith) ∙ ap (λ n. entry_lines (w + 1) xs ss ++ entry_lines n ys ts) e)
    ∙ sym (append_assoc (lines.Entry w entries.Settle ∷ settle_lines s) (entry_lines (w + 1) xs ss) (entry_lines (w + suc (length xs)) ys ts))
entries-append w (entries.Frame rec at group ring fate ∷ xs) ys ss ts h =
    let e : (w + 1) + length xs ≡ w + suc (length xs) = omega arith in
    ap (λ r. lines.Entry w (entries.Frame rec at group ring fate) ∷ r) (entries-append (w + 1) xs ys ss ts h ∙ ap (λ n. entry_lines (w + 1) xs ss ++ entry_lines n ys ts) e)
entries-append w (entries.Time t ∷ xs) ys ss ts h =
    let e : (w + 1) + length xs ≡ w + suc (length xs) = omega arith in
    ap (λ r. lines.Entry w (entries.Time t) ∷ r) (entries-append (w + 1) xs ys ss ts h ∙ ap (λ n. entry_lines (w + 1) xs ss ++ entry_lines n ys ts) e)
entries-append w (entries.Tag group ∷ xs) ys ss ts h =
    let e : (w + 1) + length xs ≡ w + suc (length xs) = omega arith in
    ap (λ r. lines.Entry w (entries.Tag group) ∷ r) (entries-append (w + 1) xs ys ss ts h ∙ ap (λ n. entry_lines (w + 1) xs ss ++ entry_lines n ys ts) e)
entries-append w (entries.Move group to ∷ xs) ys ss ts h =
    let e : (w + 1) + length xs ≡ w + suc (length xs) = omega arith in
    ap (λ r. lines.Entry w (entries.Move group to) ∷ r) (entries-append (w + 1) xs ys ss ts h ∙ ap (λ n. entry_lines (w + 1) xs ss ++ entry_lines n ys ts) e)

pub count-append : (xs ys : List EntryLine) → count_settles (xs ++ ys) ≡ count_settles xs + count_settles ys
count-append [] ys = omega arith
count-append (entries.Settle ∷ xs) ys = let e = count-append xs ys in omega (arith, e)
count-append (entries.Frame rec at group ring fate ∷ xs) ys = count-append xs ys
count-append (entries.Time t ∷ xs) ys = count-append xs ys
count-append (entries.Tag group ∷ xs) ys = count-append xs ys
count-append (entries.Move group to ∷ xs) ys = count-append xs ys

-- a settle more, behind the one before the first entry
pub later-append : (ss : List SettleLine) (s : SettleLine) → 0 < length ss → later (ss ++ s ∷ []) ≡ later ss ++ s ∷ []
later-append [] s h = absurd (omega arith)
later-append (t ∷ ss) s h = refl

pub open-append : (ss : List SettleLine) (s : SettleLine) → 0 < length ss → open_lines (ss ++ s ∷ []) ≡ open_lines ss
open-append [] s h = absurd (omega arith)
open-append (t ∷ ss) s h = refl

pub length-later : (ss : List SettleLine) (n : ℕ) → length ss ≡ n + 1 → length (later ss) ≡ n
length-later [] n h = absurd (omega arith)
length-later (t ∷ ss) n h = omega arith

pub length-more : {A : Type 0} (xs ys : List A) → length (xs ++ ys) ≡ length xs + length ys
length-more [] ys = omega arith
length-more (x ∷ xs) ys = let e = length-more xs ys in omega (arith, e)

pub length-snoc : {A : Type 0} (xs : List A) (x : A) → length (xs ++ x ∷ []) ≡ length xs + 1
length-snoc [] x = refl
length-snoc (y ∷ xs) x = let e = length-snoc xs x in omega (arith, e)
