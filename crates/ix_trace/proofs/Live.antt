-- What has been read goes on to the lines of some report.
use Rattle.std.proofs.Common.{◌≡◌, ℕ, zero, suc, ◌+◌, ◌-◌, ◌<◌, ◌≤◌, List, [], ◌∷◌, ◌++◌, length, refl, ap, sym, ◌∙◌, subst, arith, append_assoc}
use Rattle.std.specs.List.{AllByRecursion}
use Rattle.std.proofs.lemmas.List.{append-nil}
use Rattle.ix_lines.specs.Words.{Fits, max8}
use Rattle.ix_tcpdef.specs.declared.types.State.TheVariants as st
use Rattle.ix_lines.specs.declared.line.Line.{Line}
use Rattle.ix_lines.specs.declared.line.Line.TheVariants as lines
use Rattle.ix_lines.specs.declared.types.Head.{Head}
use Rattle.ix_lines.specs.declared.types.RingLine.{RingLine}
use Rattle.ix_lines.specs.declared.types.HomeLine.{HomeLine}
use Rattle.ix_lines.specs.declared.types.SettleLine.{SettleLine}
use Rattle.ix_lines.specs.declared.types.EntryLine.TheVariants as entries
use Rattle.ix_lines.specs.declared.types.Opening.{Opening}
use Rattle.ix_lines.specs.declared.types.InputKind.{InputKind}
use Rattle.ix_lines.specs.declared.types.OutputLine.{OutputLine}
use Rattle.ix_lines.specs.declared.types.InputLine.{InputLine}
use Rattle.ix_tcpdef.specs.declared.types.Left.{Left}
use Rattle.ix_trace.specs.declared.sheet.Sheet.{Sheet}
use Rattle.ix_trace.specs.declared.sheet.Draft.{Draft}
use Rattle.ix_trace.specs.declared.progress.Progress.{Progress}
use Rattle.ix_trace.specs.declared.progress.Progress.TheVariants as states
use Rattle.ix_trace.specs.Sheet.{ring_lines, home_lines, settle_lines, open_lines, later, connect_lines, entry_lines, stray_lines, output_lines, input_lines, no_conn, conn_lines, closed_lines, body_lines, sheet_lines, IsFull, IsReport}
use Rattle.ix_trace.specs.Machine.{nothing_printed, begun, with_settle, conn_of, with_conn}
use Rattle.ix_trace.proofs.SoFar.{place_in, so_far, rings-append, homes-append, closed-append, inputs-append, length-more}
use Rattle.ix_trace.proofs.Follows.{Printing, IsDraft, IsOpened, IsEmpty, IsAlive, settle_said, settle_draft, conn_said, conn_draft, first_said, first_draft, nothing_printing}

-- these lines begin the lines of some report
pub record Begins (ls : List Line) : Type 0 where
  pub sheet : Sheet
  pub more : List Line
  pub report : IsReport sheet
  pub whole : sheet_lines sheet ≡ ls ++ more
  -- what is added fits its types
  pub fits : AllByRecursion Fits ls → AllByRecursion Fits more

pub fit_append : (xs ys : List Line) → AllByRecursion Fits xs → AllByRecursion Fits ys → AllByRecursion Fits (xs ++ ys)
fit_append [] ys p q = q
fit_append (x ∷ xs) ys p q = (p.0, fit_append xs ys p.1 q)

shorter : (ls more : List Line) → (AllByRecursion Fits ls → AllByRecursion Fits more) → Begins (ls ++ more) → Begins ls
shorter ls more fits b = record {
  sheet = b.sheet;
  more = more ++ b.more;
  report = b.report;
  whole = b.whole ∙ append_assoc ls more b.more;
  fits = λ f. fit_append more b.more (fits f) (b.fits (fit_append ls more f (fits f)));
}

copies : {A : Type 0} → ℕ → A → List A
copies zero x = []
copies (suc n) x = x ∷ copies n x

length-copies : {A : Type 0} (n : ℕ) (x : A) → length (copies n x) ≡ n
unfolding copies
length-copies zero x = refl
length-copies (suc n) x = ap suc (length-copies n x)

abbrev no_ring : RingLine
no_ring = record { posted = 0; frames = 0; items = 0 }

abbrev no_home : HomeLine
no_home = record { pool = 0; posted = 0; desk = 0; held = 0; app = 0; queue = 0 }

ring_fit : (k n cores : ℕ) → k + n ≤ cores → cores ≤ max8 → AllByRecursion Fits (ring_lines k (copies n no_ring))
unfolding copies
ring_fit k zero cores h s = tt
ring_fit k (suc n) cores h s = ((omega arith, omega arith, omega arith, omega arith), ring_fit (k + 1) n cores (omega arith) s)

home_fit : (k n cores : ℕ) → k + n ≤ cores → cores ≤ max8 → AllByRecursion Fits (home_lines k (copies n no_home))
unfolding copies
home_fit k zero cores h s = tt
home_fit k (suc n) cores h s =
    ((omega arith, omega arith, omega arith, omega arith, omega arith, omega arith, omega arith), home_fit (k + 1) n cores (omega arith) s)

closed_fit : (k n cores : ℕ) → k + n ≤ cores → cores ≤ max8 → AllByRecursion Fits (closed_lines k (copies n 0))
unfolding copies
closed_fit k zero cores h s = tt
closed_fit k (suc n) cores h s = ((omega arith, omega arith), closed_fit (k + 1) n cores (omega arith) s)

-- between whole things only closed lines are owed
begins_between : (d : Draft) → IsDraft d → Begins (body_lines d.sheet)
begins_between d draft =
    let s = d.sheet in
    let ks = s.closed in
    let room = draft.closed in
    let zs : List ℕ = copies (s.head.cores - length ks) 0 in
    let l : length zs ≡ s.head.cores - length ks = length-copies (s.head.cores - length ks) 0 in
    let m : length (ks ++ zs) ≡ length ks + length zs = length-more ks zs in
    record {
      sheet = record s { closed = ks ++ zs; replies = 0; drops = 0 };
      more = closed_lines (0 + length ks) zs ++ lines.End 0 0 ∷ [];
      report = record { full = draft.base.full; count = draft.base.count; rise = draft.base.rise; groups = draft.base.groups; closed = omega arith };
      fits = λ f. fit_append (closed_lines (0 + length ks) zs) (lines.End 0 0 ∷ [])
          (closed_fit (0 + length ks) (s.head.cores - length ks) s.head.cores (omega arith) f.0.0) ((omega arith, omega arith), tt);
      whole = ap (λ r. (before s ++ r) ++ lines.End 0 0 ∷ []) (closed-append 0 ks zs)
          ∙ regroup (before s) (closed_lines 0 ks) (closed_lines (0 + length ks) zs) (lines.End 0 0 ∷ []);
    } where
      before : Sheet → List Line
      before s = lines.Head s.head ∷ open_lines s.settles ++ connect_lines 0 s.connects ++ entry_lines 0 s.entries (later s.settles) ++ stray_lines s.strays ++ conn_lines no_conn s.conns

      regroup : (f g h i : List Line) → (f ++ (g ++ h)) ++ i ≡ (f ++ g) ++ (h ++ i)
      regroup f g h i = simp append_assoc

abbrev left_so : Left
left_so = record { state = st.Closed; una = 0; nxt = 0; rcv = 0; cwnd = 0; ssthresh = 0 }

abbrev in_conn : Draft → Opening → List InputLine → List Line
in_conn d o is = body_lines d.sheet ++ lines.Conn (place_in d) o ∷ input_lines is

begins_answer : (d : Draft) (o : Opening) (is : List InputLine) (f : Left) → IsOpened d o → Begins (in_conn d o is ++ lines.Left f ∷ [])
begins_answer d o is f opened =
    shorter (in_conn d o is ++ lines.Left f ∷ []) (lines.Answer 0 0 ∷ []) (λ g. ((omega arith, omega arith), tt))
    (subst Begins (conn_said d o is f 0 0 opened) (begins_between (with_conn d (conn_of o is f 0 0)) (conn_draft d o is f 0 0 opened)))

begins_conn : (d : Draft) (o : Opening) (is : List InputLine) → IsOpened d o → Begins (in_conn d o is)
begins_conn d o is opened =
    shorter (in_conn d o is) (lines.Left left_so ∷ []) (λ g. ((omega arith, omega arith, omega arith, omega arith, omega arith), tt)) (begins_answer d o is left_so opened)

-- a settle that is begun can be filled
record Fills (cores : ℕ) (s : SettleLine) : Type 0 where
  pub whole : SettleLine
  pub more : List Line
  pub full : IsFull cores whole
  pub said : settle_lines whole ≡ settle_lines s ++ more
  pub fits : cores ≤ max8 → AllByRecursion Fits more

fills : (cores : ℕ) (s : SettleLine) → Printing cores s → Fills cores s
fills cores s p = fill s.rings s.homes p.rings p.homes p.order where
  fill : (rs : List RingLine) (hs : List HomeLine) → length rs ≤ cores → length hs ≤ cores → (0 < length hs → length rs ≡ cores) → Fills cores (record { rings = rs; homes = hs })
  fill rs [] low room order =
      let zs : List RingLine = copies (cores - length rs) no_ring in
      let l : length zs ≡ cores - length rs = length-copies (cores - length rs) no_ring in
      let m : length (rs ++ zs) ≡ length rs + length zs = length-more rs zs in
      record {
        whole = record { rings = rs ++ zs; homes = copies cores no_home };
        more = ring_lines (0 + length rs) zs ++ home_lines 0 (copies cores no_home);
        full = record { rings = omega arith; homes = length-copies cores no_home };
        fits = λ small. fit_append (ring_lines (0 + length rs) zs) (home_lines 0 (copies cores no_home))
            (ring_fit (0 + length rs) (cores - length rs) cores (omega arith) small) (home_fit 0 cores cores (omega arith) small);
        said = ap (λ r. r ++ home_lines 0 (copies cores no_home)) (rings-append 0 rs zs)
            ∙ append_assoc (ring_lines 0 rs) (ring_lines (0 + length rs) zs) (home_lines 0 (copies cores no_home))
            ∙ ap (λ r. r ++ (ring_lines (0 + length rs) zs ++ home_lines 0 (copies cores no_home))) (sym (append-nil (ring_lines 0 rs)));
      }
  fill rs (h ∷ hs) low room order =
      let zs : List HomeLine = copies (cores - length (h ∷ hs)) no_home in
      let l : length zs ≡ cores - length (h ∷ hs) = length-copies (cores - length (h ∷ hs)) no_home in
      let m : length ((h ∷ hs) ++ zs) ≡ length (h ∷ hs) + length zs = length-more (h ∷ hs) zs in
      record {
        whole = record { rings = rs; homes = (h ∷ hs) ++ zs };
        more = home_lines (0 + length (h ∷ hs)) zs;
        full = record { rings = order (omega arith); homes = omega arith };
        fits = λ small. home_fit (0 + length (h ∷ hs)) (cores - length (h ∷ hs)) cores (omega arith) small;
        said = ap (λ r. ring_lines 0 rs ++ r) (homes-append 0 (h ∷ hs) zs)
            ∙ sym (append_assoc (ring_lines 0 rs) (home_lines 0 (h ∷ hs)) (home_lines (0 + length (h ∷ hs)) zs));
      }

begins_first : (h : Head) (s : SettleLine) → Printing h.cores s → Begins (lines.Head h ∷ lines.Open ∷ settle_lines s)
begins_first h s p =
    let f = fills h.cores s p in
    let said = f.said in
    shorter (lines.Head h ∷ lines.Open ∷ settle_lines s) f.more (λ g. f.fits g.0.0)
    (subst Begins (first_said h f.whole ∙ ap (λ r. lines.Head h ∷ lines.Open ∷ r) said) (begins_between (begun h f.whole) (first_draft h f.whole f.full)))

begins_head : (h : Head) → Begins (lines.Head h ∷ [])
begins_head h = shorter (lines.Head h ∷ []) (lines.Open ∷ []) (λ f. (tt, tt)) (begins_first h nothing_printed (nothing_printing h.cores))

begins_nothing : Begins []
begins_nothing =
    shorter [] (lines.Head (record { cores = 0; batch = 0; buffers = 0 }) ∷ []) (λ f. ((omega arith, omega arith, omega arith), tt))
    (begins_head (record { cores = 0; batch = 0; buffers = 0 }))

begins_settle : (d : Draft) (s : SettleLine) → IsDraft d → IsEmpty d → Printing d.sheet.head.cores s
    → Begins (body_lines d.sheet ++ lines.Entry (length d.sheet.entries) entries.Settle ∷ settle_lines s)
begins_settle d s draft none p =
    let f = fills d.sheet.head.cores s p in
    let said = f.said in
    let front = body_lines d.sheet in
    let l = lines.Entry (length d.sheet.entries) entries.Settle in
    shorter (front ++ l ∷ settle_lines s) f.more (λ g. f.fits g.0.0)
    (subst Begins (settle_said d f.whole draft none ∙ ap (λ r. front ++ l ∷ r) said ∙ sym (append_assoc front (l ∷ settle_lines s) f.more))
    (begins_between (with_settle d f.whole) (settle_draft d f.whole draft f.full)))

begins_input : (d : Draft) (o : Opening) (is : List InputLine) (k : InputKind) (os : List OutputLine) → IsOpened d o → Begins (in_conn d o is ++ lines.Input k ∷ output_lines os)
begins_input d o is k os opened =
    let i : InputLine = record { kind = k; outputs = os } in
    subst Begins
    (ap (λ r. body_lines d.sheet ++ lines.Conn (place_in d) o ∷ r) (inputs-append is (i ∷ []) ∙ ap (λ r. input_lines is ++ r) (append-nil (lines.Input k ∷ output_lines os)))
    ∙ sym (append_assoc (body_lines d.sheet) (lines.Conn (place_in d) o ∷ input_lines is) (lines.Input k ∷ output_lines os)))
    (begins_conn d o (is ++ i ∷ []) opened)

-- the law
pub so_far_begins : (s : Progress) → IsAlive s → Begins (so_far s)
so_far_begins states.AtHead h = begins_nothing
so_far_begins (states.AtOpen d) h = begins_head d
so_far_begins (states.InFirst d s) h = begins_first d s h
so_far_begins (states.Between d) h = begins_between d h
so_far_begins (states.InSettle d s) h = begins_settle d s h.0 h.1 h.2
so_far_begins (states.InConn d o is) h = begins_conn d o is h
so_far_begins (states.InInput d o is k os) h = begins_input d o is k os h
so_far_begins (states.AtAnswer d o is f) h = begins_answer d o is f h
so_far_begins (states.Done s) h = record { sheet = s; more = []; report = h; whole = sym (append-nil (sheet_lines s)); fits = λ f. tt }
