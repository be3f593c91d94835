-- The lines of a report are let through, and give it.
use Rattle.std.proofs.Common.{◌≡◌, ℕ, ◌+◌, ◌-◌, ◌<◌, ◌≤◌, List, [], ◌∷◌, ◌++◌, length, refl, ap, sym, ◌∙◌, subst, arith, append_assoc, true, false, Option, Some}
use Rattle.std.specs.Prelude.{if◌then◌else◌, ◌==◌, ◌&&◌, nat_lt, nat_le}
use Rattle.std.specs.List.{AllByRecursion}
use Rattle.std.proofs.lemmas.List.{append-nil}
use Rattle.std.proofs.lemmas.Bool.{cond_both, cond-true, cond-false, and_from, and_left, and_right, eq-eqb, ne_eqb, lt-ltb, le-leb}
use Rattle.ix_lines.specs.declared.line.Line.{Line}
use Rattle.ix_lines.specs.declared.line.Line.TheVariants as lines
use Rattle.ix_lines.specs.declared.types.Head.{Head}
use Rattle.ix_lines.specs.declared.types.RingLine.{RingLine}
use Rattle.ix_lines.specs.declared.types.HomeLine.{HomeLine}
use Rattle.ix_lines.specs.declared.types.SettleLine.{SettleLine}
use Rattle.ix_lines.specs.declared.types.ConnectLine.{ConnectLine}
use Rattle.ix_lines.specs.declared.types.EntryLine.{EntryLine}
use Rattle.ix_lines.specs.declared.types.EntryLine.TheVariants as entries
use Rattle.ix_lines.specs.declared.types.StrayLine.{StrayLine}
use Rattle.ix_lines.specs.declared.types.Opening.{Opening}
use Rattle.ix_lines.specs.declared.types.InputKind.{InputKind}
use Rattle.ix_lines.specs.declared.types.OutputLine.{OutputLine}
use Rattle.ix_lines.specs.declared.types.InputLine.{InputLine}
use Rattle.ix_lines.specs.declared.types.ConnLine.{ConnLine}
use Rattle.ix_tcpdef.specs.declared.types.Left.{Left}
use Rattle.ix_trace.specs.declared.sheet.Sheet.{Sheet}
use Rattle.ix_trace.specs.declared.sheet.Draft.{Draft}
use Rattle.ix_trace.specs.declared.progress.Progress.{Progress}
use Rattle.ix_trace.specs.declared.progress.Progress.TheVariants as states
use Rattle.ix_trace.specs.Sheet.{ring_lines, home_lines, settle_lines, connect_lines, entry_lines, stray_lines, output_lines, input_lines, Last, no_conn, order_of, with_last, opening_of, conn_lines, closed_lines, sheet_lines, IsFull, count_settles, Rise, NeverFall, IsReport}
use Rattle.ix_trace.specs.Machine.{is_full, nothing_printed, settle_step, begun, with_settle, begin_of, in_group, conn_of, with_conn, step, then_run, run}
use Rattle.ix_trace.proofs.SoFar.{length-snoc}

abbrev NotEmpty : List Line → Type 0
NotEmpty [] = ⊥
NotEmpty (l ∷ ls) = Unit {0}

behind : (xs ys : List Line) → NotEmpty ys → NotEmpty (xs ++ ys)
behind [] ys h = h
behind (x ∷ xs) ys h = tt

-- a step that is made
goes : (s t : Progress) (l : Line) (ls : List Line) → step s l ≡ Some t → run s (l ∷ ls) ≡ run t ls
goes s t l ls e = ap (then_run (λ t. run t ls)) e

module _ (cores : ℕ) (go : SettleLine → Progress) (reads : (s : SettleLine) (l : Line) → is_full cores s ≡ false → step (go s) l ≡ settle_step cores s go l) where
  ring_run : (more : List RingLine) (k : ℕ) (rs : List RingLine) (rest : List Line) → k ≡ length rs → length rs + length more ≤ cores
      → run (go (record { rings = rs; homes = [] })) (ring_lines k more ++ rest) ≡ run (go (record { rings = rs ++ more; homes = [] })) rest
  ring_run [] k rs rest at room = ap (λ r. run (go (record { rings = r; homes = [] })) rest) (sym (append-nil rs))
  ring_run (r ∷ more) k rs rest at room =
      let below : length rs < cores = omega arith in
      let l = length-snoc rs r in
      goes (go (record { rings = rs; homes = [] })) (go (record { rings = rs ++ r ∷ []; homes = [] })) (lines.Ring k r) (ring_lines (k + 1) more ++ rest)
      (reads (record { rings = rs; homes = [] }) (lines.Ring k r)
      (and_left (length rs == cores) (0 == cores) (ne_eqb (length rs) cores (λ e. omega arith)))
      ∙ cond-true _ _ _ (and_from (nat_lt (length rs) cores && k == length rs) true (and_from (nat_lt (length rs) cores) (k == length rs) (lt-ltb _ _ below) (eq-eqb _ _ at)) refl))
      ∙ ring_run more (k + 1) (rs ++ r ∷ []) rest (omega (arith, l)) (omega (arith, l))
      ∙ ap (λ x. run (go (record { rings = x; homes = [] })) rest) (append_assoc rs (r ∷ []) more)

  home_run : (more : List HomeLine) (k : ℕ) (rs : List RingLine) (hs : List HomeLine) (rest : List Line) → k ≡ length hs → length rs ≡ cores → length hs + length more ≤ cores
      → run (go (record { rings = rs; homes = hs })) (home_lines k more ++ rest) ≡ run (go (record { rings = rs; homes = hs ++ more })) rest
  home_run [] k rs hs rest at full room = ap (λ r. run (go (record { rings = rs; homes = r })) rest) (sym (append-nil hs))
  home_run (n ∷ more) k rs hs rest at full room =
      let below : length hs < cores = omega arith in
      let l = length-snoc hs n in
      goes (go (record { rings = rs; homes = hs })) (go (record { rings = rs; homes = hs ++ n ∷ [] })) (lines.Home k n) (home_lines (k + 1) more ++ rest)
      (reads (record { rings = rs; homes = hs }) (lines.Home k n)
      (and_right (length rs == cores) (length hs == cores) (ne_eqb (length hs) cores (λ e. omega arith)))
      ∙ cond-true _ _ _ (and_from (length rs == cores && nat_lt (length hs) cores) (k == length hs) (and_from (length rs == cores) (nat_lt (length hs) cores) (eq-eqb _ _ full) (lt-ltb _ _ below)) (eq-eqb _ _ at)))
      ∙ home_run more (k + 1) rs (hs ++ n ∷ []) rest (omega (arith, l)) full (omega (arith, l))
      ∙ ap (λ x. run (go (record { rings = rs; homes = x })) rest) (append_assoc hs (n ∷ []) more)

  settle_run : (s : SettleLine) (rest : List Line) → IsFull cores s → run (go nothing_printed) (settle_lines s ++ rest) ≡ run (go s) rest
  settle_run s rest full =
      ap (run (go nothing_printed)) (append_assoc (ring_lines 0 s.rings) (home_lines 0 s.homes) rest)
      ∙ ring_run s.rings 0 [] (home_lines 0 s.homes ++ rest) refl (let f = full.rings in omega (arith, f))
      ∙ home_run s.homes 0 s.rings [] rest refl full.rings (let f = full.homes in omega (arith, f))

full_true : (cores : ℕ) (s : SettleLine) → IsFull cores s → is_full cores s ≡ true
full_true cores s full = and_from (length s.rings == cores) (length s.homes == cores) (eq-eqb _ _ full.rings) (eq-eqb _ _ full.homes)

-- a whole settle is closed by the line after it
late_first : (h : Head) (s : SettleLine) (ls : List Line) → IsFull h.cores s → NotEmpty ls → run (states.InFirst h s) ls ≡ run (states.Between (begun h s)) ls
unfolding step
late_first h s [] full some = absurd some
late_first h s (l ∷ ls) full some = ap (then_run (λ t. run t ls)) (cond-true _ _ _ (full_true h.cores s full))

late_settle : (d : Draft) (s : SettleLine) (ls : List Line) → IsFull d.sheet.head.cores s → NotEmpty ls → run (states.InSettle d s) ls ≡ run (states.Between (with_settle d s)) ls
unfolding step
late_settle d s [] full some = absurd some
late_settle d s (l ∷ ls) full some = ap (then_run (λ t. run t ls)) (cond-true _ _ _ (full_true d.sheet.head.cores s full))

-- what has been read, part by part
abbrev draft : Head → List SettleLine → List ConnectLine → List EntryLine → List StrayLine → List ConnLine → List ℕ → ℕ → ℕ → ℕ → Draft
draft h ss cs es ts ns ks g b x = record {
  sheet = record { head = h; settles = ss; connects = cs; entries = es; strays = ts; conns = ns; closed = ks; replies = 0; drops = 0 };
  group = g;
  begin = b;
  next = x;
}

connect_run : (more : List ConnectLine) (k : ℕ) (h : Head) (ss : List SettleLine) (cs : List ConnectLine) (g b x : ℕ) (rest : List Line) → k ≡ length cs
    → run (states.Between (draft h ss cs [] [] [] [] g b x)) (connect_lines k more ++ rest) ≡ run (states.Between (draft h ss (cs ++ more) [] [] [] [] g b x)) rest
unfolding step
connect_run [] k h ss cs g b x rest at = ap (λ r. run (states.Between (draft h ss r [] [] [] [] g b x)) rest) (sym (append-nil cs))
connect_run (a ∷ more) k h ss cs g b x rest at =
    let l = length-snoc cs a in
    goes (states.Between (draft h ss cs [] [] [] [] g b x)) (states.Between (draft h ss (cs ++ a ∷ []) [] [] [] [] g b x)) (lines.Connect k a) _ (cond-true _ _ _ (eq-eqb _ _ at))
    ∙ connect_run more (k + 1) h ss (cs ++ a ∷ []) g b x rest (omega (arith, l))
    ∙ ap (λ r. run (states.Between (draft h ss r [] [] [] [] g b x)) rest) (append_assoc cs (a ∷ []) more)

module _ (h : Head) (cs : List ConnectLine) (g b x : ℕ) where
  abbrev in_entries : List SettleLine → List EntryLine → Progress
  in_entries ss es = states.Between (draft h ss cs es [] [] [] g b x)

  entry_run : (more : List EntryLine) (ms : List SettleLine) (w : ℕ) (ss : List SettleLine) (es : List EntryLine) (rest : List Line) → w ≡ length es
      → length ms ≡ count_settles more → AllByRecursion (IsFull h.cores) ms → NotEmpty rest
      → run (in_entries ss es) (entry_lines w more ms ++ rest) ≡ run (in_entries (ss ++ ms) (es ++ more)) rest
  unfolding step
  entry_run [] [] w ss es rest at count full some = rw (append-nil ss, append-nil es) refl
  entry_run [] (m ∷ ms) w ss es rest at count full some = absurd (omega arith)
  entry_run (entries.Settle ∷ more) [] w ss es rest at count full some = absurd (omega arith)
  entry_run (entries.Settle ∷ more) (m ∷ ms) w ss es rest at count full some =
      let l = length-snoc es entries.Settle in
      let d : Draft = draft h ss cs es [] [] [] g b x in
      goes (in_entries ss es) (states.InSettle d nothing_printed) (lines.Entry w entries.Settle) _ (cond-true _ _ _ (eq-eqb _ _ at))
      ∙ ap (run (states.InSettle d nothing_printed)) (append_assoc (settle_lines m) (entry_lines (w + 1) more ms) rest)
      ∙ settle_run h.cores (states.InSettle d) (λ s l part. cond-false _ _ _ part) m (entry_lines (w + 1) more ms ++ rest) full.0
      ∙ late_settle d m (entry_lines (w + 1) more ms ++ rest) full.0 (behind (entry_lines (w + 1) more ms) rest some)
      ∙ entry_run more ms (w + 1) (ss ++ m ∷ []) (es ++ entries.Settle ∷ []) rest (omega (arith, l)) (omega arith) full.1 some
      ∙ ap (λ r. run (in_entries ((ss ++ m ∷ []) ++ ms) r) rest) (append_assoc es (entries.Settle ∷ []) more)
      ∙ ap (λ r. run (in_entries r (es ++ entries.Settle ∷ more)) rest) (append_assoc ss (m ∷ []) ms)
  entry_run (entries.Frame rec at1 group ring fate ∷ more) ms w ss es rest at count full some =
      let e : EntryLine = entries.Frame rec at1 group ring fate in
      let l = length-snoc es e in
      goes (in_entries ss es) (in_entries ss (es ++ e ∷ [])) (lines.Entry w e) _ (cond-true _ _ _ (eq-eqb _ _ at))
      ∙ entry_run more ms (w + 1) ss (es ++ e ∷ []) rest (omega (arith, l)) count full some
      ∙ ap (λ r. run (in_entries (ss ++ ms) r) rest) (append_assoc es (e ∷ []) more)
  entry_run (entries.Time t ∷ more) ms w ss es rest at count full some =
      let e : EntryLine = entries.Time t in
      let l = length-snoc es e in
      goes (in_entries ss es) (in_entries ss (es ++ e ∷ [])) (lines.Entry w e) _ (cond-true _ _ _ (eq-eqb _ _ at))
      ∙ entry_run more ms (w + 1) ss (es ++ e ∷ []) rest (omega (arith, l)) count full some
      ∙ ap (λ r. run (in_entries (ss ++ ms) r) rest) (append_assoc es (e ∷ []) more)
  entry_run (entries.Tag group ∷ more) ms w ss es rest at count full some =
      let e : EntryLine = entries.Tag group in
      let l = length-snoc es e in
      goes (in_entries ss es) (in_entries ss (es ++ e ∷ [])) (lines.Entry w e) _ (cond-true _ _ _ (eq-eqb _ _ at))
      ∙ entry_run more ms (w + 1) ss (es ++ e ∷ []) rest (omega (arith, l)) count full some
      ∙ ap (λ r. run (in_entries (ss ++ ms) r) rest) (append_assoc es (e ∷ []) more)
  entry_run (entries.Move group to ∷ more) ms w ss es rest at count full some =
      let e : EntryLine = entries.Move group to in
      let l = length-snoc es e in
      goes (in_entries ss es) (in_entries ss (es ++ e ∷ [])) (lines.Entry w e) _ (cond-true _ _ _ (eq-eqb _ _ at))
      ∙ entry_run more ms (w + 1) ss (es ++ e ∷ []) rest (omega (arith, l)) count full some
      ∙ ap (λ r. run (in_entries (ss ++ ms) r) rest) (append_assoc es (e ∷ []) more)

-- where the strays end, whatever the least wire number of the next would be
stray_run : (more : List StrayLine) (h : Head) (ss : List SettleLine) (cs : List ConnectLine) (es : List EntryLine) (ts : List StrayLine) (g b x : ℕ) (rest : List Line)
    (r : Option Progress) → Rise x more
    → ((y : ℕ) → run (states.Between (draft h ss cs es (ts ++ more) [] [] g b y)) rest ≡ r)
    → run (states.Between (draft h ss cs es ts [] [] g b x)) (stray_lines more ++ rest) ≡ r
unfolding step
stray_run [] h ss cs es ts g b x rest r rise go = ap (λ q. run (states.Between (draft h ss cs es q [] [] g b x)) rest) (sym (append-nil ts)) ∙ go x
stray_run (s ∷ more) h ss cs es ts g b x rest r rise go =
    goes (states.Between (draft h ss cs es ts [] [] g b x)) (states.Between (draft h ss cs es (ts ++ s ∷ []) [] [] g b (s.w.0 + 1))) (lines.Stray s) _
    (cond-true _ _ _ (le-leb x s.w.0 rise.0))
    ∙ stray_run more h ss cs es (ts ++ s ∷ []) g b (s.w.0 + 1) rest r rise.1
    (λ y. ap (λ q. run (states.Between (draft h ss cs es q [] [] g b y)) rest) (append_assoc ts (s ∷ []) more) ∙ go y)

output_run : (more : List OutputLine) (d : Draft) (o : Opening) (is : List InputLine) (k : InputKind) (os : List OutputLine) (rest : List Line)
    → run (states.InInput d o is k os) (output_lines more ++ rest) ≡ run (states.InInput d o is k (os ++ more)) rest
unfolding step
output_run [] d o is k os rest = ap (λ x. run (states.InInput d o is k x) rest) (sym (append-nil os))
output_run (y ∷ more) d o is k os rest =
    output_run more d o is k (os ++ y ∷ []) rest ∙ ap (λ x. run (states.InInput d o is k x) rest) (append_assoc os (y ∷ []) more)

begun_input : (d : Draft) (o : Opening) (is : List InputLine) (k : InputKind) (ls : List Line)
    → run (states.InConn d o is) (lines.Input k ∷ ls) ≡ run (states.InInput d o is k []) ls
unfolding step
begun_input d o is k ls = refl

-- an input is closed by the line after it
late_input : (more : List InputLine) (d : Draft) (o : Opening) (is : List InputLine) (k : InputKind) (os : List OutputLine) (f : Left) (rest : List Line)
    → run (states.InInput d o is k os) (input_lines more ++ lines.Left f ∷ rest)
    ≡ run (states.InConn d o (is ++ record { kind = k; outputs = os } ∷ [])) (input_lines more ++ lines.Left f ∷ rest)
unfolding step
late_input [] d o is k os f rest = refl
late_input (i ∷ more) d o is k os f rest = refl

input_run : (more : List InputLine) (d : Draft) (o : Opening) (is : List InputLine) (f : Left) (wrote taken : ℕ) (rest : List Line)
    → run (states.InConn d o is) (input_lines more ++ lines.Left f ∷ lines.Answer wrote taken ∷ rest)
    ≡ run (states.Between (with_conn d (conn_of o (is ++ more) f wrote taken))) rest
unfolding step
input_run [] d o is f wrote taken rest = ap (λ x. run (states.Between (with_conn d (conn_of o x f wrote taken))) rest) (sym (append-nil is))
input_run (i ∷ more) d o is f wrote taken rest =
    let last = lines.Left f ∷ lines.Answer wrote taken ∷ rest in
    begun_input d o is i.kind ((output_lines i.outputs ++ input_lines more) ++ last)
    ∙ ap (run (states.InInput d o is i.kind [])) (append_assoc (output_lines i.outputs) (input_lines more) last)
    ∙ output_run i.outputs d o is i.kind [] (input_lines more ++ last)
    ∙ late_input more d o is i.kind i.outputs f (lines.Answer wrote taken ∷ rest)
    ∙ input_run more d o (is ++ i ∷ []) f wrote taken rest
    ∙ ap (λ x. run (states.Between (with_conn d (conn_of o x f wrote taken))) rest) (append_assoc is (i ∷ []) more)

-- the place of a group's next connection, as the draft has it
order_in : (g b n : ℕ) (c : ℕ) → order_of (record { group = g; next = n - b }) c ≡ n - (if g == c then b else n)
order_in g b n c =
    cond_both (g == c) (n - b) 0 (λ r. r ≡ n - (if g == c then b else n)) (λ t. rw t refl) (λ t. rw t (omega arith))

begin_in : (g b n c : ℕ) → b ≤ n → (if g == c then b else n) ≤ n
begin_in g b n c low = cond_both (g == c) b n (λ r. r ≤ n) (λ t. low) (λ t. omega arith)

conn_run : (more : List ConnLine) (h : Head) (ss : List SettleLine) (cs : List ConnectLine) (es : List EntryLine) (ts : List StrayLine) (ns : List ConnLine)
    (g b x : ℕ) (p : Last) (rest : List Line) (r : Option Progress) → p ≡ record { group = g; next = length ns - b } → b ≤ length ns → NeverFall g more
    → ((g b : ℕ) → run (states.Between (draft h ss cs es ts (ns ++ more) [] g b x)) rest ≡ r)
    → run (states.Between (draft h ss cs es ts ns [] g b x)) (conn_lines p more ++ rest) ≡ r
unfolding step
conn_run [] h ss cs es ts ns g b x p rest r at low groups go =
    ap (λ q. run (states.Between (draft h ss cs es ts q [] g b x)) rest) (sym (append-nil ns)) ∙ go g b
conn_run (c ∷ more) h ss cs es ts ns g b x p rest r at low groups go =
    let d : Draft = draft h ss cs es ts ns [] g b x in
    let k = c.group.0 in
    let d2 : Draft = in_group d k in
    let l = length-snoc ns c in
    let order : order_of p k ≡ length ns - begin_of d k = ap (λ q. order_of q k) at ∙ order_in g b (length ns) k in
    let low2 : begin_of d k ≤ length ns = begin_in g b (length ns) k low in
    let n : order_of p k + 1 ≡ length (ns ++ c ∷ []) - begin_of d k = omega (arith, l, low2, order) in
    goes (states.Between d) (states.InConn d2 (opening_of c) []) (lines.Conn (order_of p k) (opening_of c)) _
    (cond-true _ _ _ (and_from (nat_le g k) (order_of p k == length ns - begin_of d k) (le-leb g k groups.0) (eq-eqb _ _ order)))
    ∙ ap (run (states.InConn d2 (opening_of c) [])) (append_assoc (input_lines c.inputs) (lines.Left c.left ∷ lines.Answer c.wrote c.taken ∷ conn_lines (with_last p k) more) rest)
    ∙ input_run c.inputs d2 (opening_of c) [] c.left c.wrote c.taken (conn_lines (with_last p k) more ++ rest)
    ∙ conn_run more h ss cs es ts (ns ++ c ∷ []) k (begin_of d k) x (with_last p k) rest r (ap (λ m. at_next k m) n) (omega (arith, l, low2)) groups.1
    (λ g b. ap (λ q. run (states.Between (draft h ss cs es ts q [] g b x)) rest) (append_assoc ns (c ∷ []) more) ∙ go g b) where
      at_next : ℕ → ℕ → Last
      at_next g n = record { group = g; next = n }

closed_run : (more : List ℕ) (k : ℕ) (h : Head) (ss : List SettleLine) (cs : List ConnectLine) (es : List EntryLine) (ts : List StrayLine) (ns : List ConnLine) (ks : List ℕ)
    (g b x r d : ℕ) → k ≡ length ks → length ks + length more ≡ h.cores
    → run (states.Between (draft h ss cs es ts ns ks g b x)) (closed_lines k more ++ lines.End r d ∷ [])
    ≡ Some (states.Done (record { head = h; settles = ss; connects = cs; entries = es; strays = ts; conns = ns; closed = ks ++ more; replies = r; drops = d }))
unfolding step
closed_run [] k h ss cs es ts ns ks g b x r d at full =
    let e : length ks ≡ h.cores = omega arith in
    goes (states.Between (draft h ss cs es ts ns ks g b x))
    (states.Done (record { head = h; settles = ss; connects = cs; entries = es; strays = ts; conns = ns; closed = ks; replies = r; drops = d })) (lines.End r d) []
    (cond-true _ _ _ (eq-eqb _ _ e))
    ∙ ap (λ q. Some (states.Done (record { head = h; settles = ss; connects = cs; entries = es; strays = ts; conns = ns; closed = q; replies = r; drops = d }))) (sym (append-nil ks))
closed_run (n ∷ more) k h ss cs es ts ns ks g b x r d at full =
    let below : length ks < h.cores = omega arith in
    let l = length-snoc ks n in
    goes (states.Between (draft h ss cs es ts ns ks g b x)) (states.Between (draft h ss cs es ts ns (ks ++ n ∷ []) g b x)) (lines.Closed k n) _
    (cond-true _ _ _ (and_from (nat_lt (length ks) h.cores) (k == length ks) (lt-ltb _ _ below) (eq-eqb _ _ at)))
    ∙ closed_run more (k + 1) h ss cs es ts ns (ks ++ n ∷ []) g b x r d (omega (arith, l)) (omega (arith, l))
    ∙ ap (λ q. Some (states.Done (record { head = h; settles = ss; connects = cs; entries = es; strays = ts; conns = ns; closed = q; replies = r; drops = d }))) (append_assoc ks (n ∷ []) more)

grouped : (f g : Line) (s c e t n k z : List Line) → ((((((f ∷ g ∷ s) ++ c) ++ e) ++ t) ++ n) ++ k) ++ z ≡ f ∷ g ∷ (s ++ (c ++ (e ++ (t ++ (n ++ (k ++ z))))))
grouped f g s c e t n k z = simp append_assoc

-- with the settle before the first entry taken apart from the others
run_all : (h : Head) (first : SettleLine) (ss : List SettleLine) (cs : List ConnectLine) (es : List EntryLine) (ts : List StrayLine) (ns : List ConnLine) (ks : List ℕ) (r d : ℕ)
    → IsFull h.cores first → AllByRecursion (IsFull h.cores) ss → length ss ≡ count_settles es → Rise 0 ts → NeverFall 0 ns → length ks ≡ h.cores
    → run states.AtHead (sheet_lines (record { head = h; settles = first ∷ ss; connects = cs; entries = es; strays = ts; conns = ns; closed = ks; replies = r; drops = d }))
    ≡ Some (states.Done (record { head = h; settles = first ∷ ss; connects = cs; entries = es; strays = ts; conns = ns; closed = ks; replies = r; drops = d }))
unfolding step
run_all h first ss cs es ts ns ks r d full each count rise groups closed =
    let last = closed_lines 0 ks ++ lines.End r d ∷ [] in
    let conns = conn_lines no_conn ns ++ last in
    let strays = stray_lines ts ++ conns in
    let es' = entry_lines 0 es ss ++ strays in
    let some : NotEmpty strays = behind (stray_lines ts) conns (behind (conn_lines no_conn ns) last (behind (closed_lines 0 ks) (lines.End r d ∷ []) tt)) in
    ap (run states.AtHead) (grouped (lines.Head h) lines.Open (settle_lines first) (connect_lines 0 cs) (entry_lines 0 es ss) (stray_lines ts) (conn_lines no_conn ns) (closed_lines 0 ks) (lines.End r d ∷ []))
    ∙ settle_run h.cores (states.InFirst h) (λ s l part. cond-false _ _ _ part) first (connect_lines 0 cs ++ es') full
    ∙ late_first h first (connect_lines 0 cs ++ es') full (behind (connect_lines 0 cs) es' (behind (entry_lines 0 es ss) strays some))
    ∙ connect_run cs 0 h (first ∷ []) [] 0 0 0 es' refl
    ∙ entry_run h cs 0 0 0 es ss 0 (first ∷ []) [] strays refl count each some
    ∙ stray_run ts h (first ∷ ss) cs es [] 0 0 0 conns _ rise (λ y.
    conn_run ns h (first ∷ ss) cs es ts [] 0 0 y no_conn last _ refl (omega arith) groups (λ g b.
    closed_run ks 0 h (first ∷ ss) cs es ts ns [] g b y r d refl (omega (arith, closed))))

-- the law: a report's lines give the report
pub run_gives : (s : Sheet) → IsReport s → run states.AtHead (sheet_lines s) ≡ Some (states.Done s)
run_gives s ok = by_settles s.settles refl ok.full ok.count where
  by_settles : (ss : List SettleLine) → s.settles ≡ ss → AllByRecursion (IsFull s.head.cores) ss → length ss ≡ count_settles s.entries + 1
      → run states.AtHead (sheet_lines s) ≡ Some (states.Done s)
  by_settles [] e full count = absurd (omega arith)
  by_settles (first ∷ ss) e full count =
      let P : List SettleLine → Type 0 = λ q. run states.AtHead (sheet_lines (record s { settles = q })) ≡ Some (states.Done (record s { settles = q })) in
      subst P (sym e) (run_all s.head first ss s.connects s.entries s.strays s.conns s.closed s.replies s.drops full.0 full.1 (omega arith) ok.rise ok.groups ok.closed)
