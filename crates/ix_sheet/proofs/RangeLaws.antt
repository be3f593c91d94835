-- The lines of a report whose numbers fit their types fit.
use Rattle.std.proofs.Common.{◌≡◌, ℕ, suc, ◌+◌, ◌≤◌, ◌++◌, Bool, true, false, List, [], ◌∷◌, length, arith}
use Rattle.std.specs.Prelude.{◌==◌, if◌then◌else◌}
use Rattle.std.specs.List.{AllByRecursion}
use Rattle.std.proofs.lemmas.List.Elements.{recursion_from_All}
use Rattle.ix_lines.specs.Words.{Fits, FitsEntry, FitsOutput, max32, max64, max8}
use Rattle.ix_lines.specs.declared.line.Line.{Line}
use Rattle.ix_lines.specs.declared.line.Line.TheVariants as lines
use Rattle.ix_lines.specs.declared.types.ConnLine.{ConnLine}
use Rattle.ix_lines.specs.declared.types.ConnectLine.{ConnectLine}
use Rattle.ix_lines.specs.declared.types.EntryLine.{EntryLine}
use Rattle.ix_lines.specs.declared.types.EntryLine.TheVariants as entries
use Rattle.ix_lines.specs.declared.types.HomeLine.{HomeLine}
use Rattle.ix_lines.specs.declared.types.InputLine.{InputLine}
use Rattle.ix_lines.specs.declared.types.OutputLine.{OutputLine}
use Rattle.ix_lines.specs.declared.types.RingLine.{RingLine}
use Rattle.ix_lines.specs.declared.types.SettleLine.{SettleLine}
use Rattle.ix_lines.specs.declared.types.StrayLine.{StrayLine}
use Rattle.ix_trace.specs.Sheet.{IsFull, IsReport, Last, closed_lines, conn_lines, connect_lines, entry_lines, home_lines, input_lines, later, no_conn, open_lines, order_of, output_lines, ring_lines, settle_lines, sheet_lines, stray_lines, with_last}
use Rattle.ix_trace.specs.declared.sheet.Sheet.{Sheet}
use Rattle.ix_sheet.specs.Ranges.{FitsConn, FitsHome, FitsInputLine, FitsRing, FitsSettle, FitsSheet, FitsStray}

abbrev AllFit : List Line → Type 0
AllFit ls = AllByRecursion Fits ls

both : (xs ys : List Line) → AllFit xs → AllFit ys → AllFit (xs ++ ys)
both [] ys p q = q
both (x ∷ xs) ys p q = (p.0, both xs ys p.1 q)

-- a number and so many more
within : (a n top : ℕ) → a + n ≤ top → a ≤ top
within a n top h = omega (arith, h)

next : (a n top : ℕ) → a + suc n ≤ top → (a + 1) + n ≤ top
next a n top h = omega (arith, h)

-- ## Settles
rings-fit : (core : ℕ) (rs : List RingLine) → core + length rs ≤ max64 → AllByRecursion FitsRing rs → AllFit (ring_lines core rs)
rings-fit core [] h p = tt
rings-fit core (r ∷ rs) h p = ((within core (suc (length rs)) max64 h, p.0.posted, p.0.frames, p.0.items), rings-fit (core + 1) rs (next core (length rs) max64 h) p.1)

homes-fit : (core : ℕ) (hs : List HomeLine) → core + length hs ≤ max64 → AllByRecursion FitsHome hs → AllFit (home_lines core hs)
homes-fit core [] h p = tt
homes-fit core (x ∷ hs) h p = ((within core (suc (length hs)) max64 h, p.0.pool, p.0.posted, p.0.desk, p.0.held, p.0.app, p.0.queue), homes-fit (core + 1) hs (next core (length hs) max64 h) p.1)

from-none : (n : ℕ) → n ≤ max64 → 0 + n ≤ max64
from-none n h = omega (arith, h)

few-cores : (cores n : ℕ) → cores ≤ max8 → n ≡ cores → 0 + n ≤ max64
few-cores cores n h e = omega (arith, h, e)

abbrev SettleFits : SettleLine → Type 0
SettleFits s = AllFit (settle_lines s)

settle-fits : (cores : ℕ) (s : SettleLine) → cores ≤ max8 → IsFull cores s → FitsSettle s → SettleFits s
settle-fits cores s h full fits =
    both (ring_lines 0 s.rings) (home_lines 0 s.homes)
    (rings-fit 0 s.rings (few-cores cores (length s.rings) h full.rings) (recursion_from_All FitsRing s.rings fits.rings))
    (homes-fit 0 s.homes (few-cores cores (length s.homes) h full.homes) (recursion_from_All FitsHome s.homes fits.homes))

settles-fit : (cores : ℕ) (ss : List SettleLine) → cores ≤ max8 → AllByRecursion (IsFull cores) ss → AllByRecursion FitsSettle ss → AllByRecursion SettleFits ss
settles-fit cores [] h full fits = tt
settles-fit cores (s ∷ ss) h full fits = (settle-fits cores s h full.0 fits.0, settles-fit cores ss h full.1 fits.1)

open-fits : (ss : List SettleLine) → AllByRecursion SettleFits ss → AllFit (open_lines ss)
open-fits [] p = tt
open-fits (s ∷ ss) p = (tt, p.0)

later-fit : (ss : List SettleLine) → AllByRecursion SettleFits ss → AllByRecursion SettleFits (later ss)
later-fit [] p = tt
later-fit (s ∷ ss) p = p.1

-- ## Connects and entries
connects-fit : (peer : ℕ) (cs : List ConnectLine) → peer + length cs ≤ max64 → AllFit (connect_lines peer cs)
connects-fit peer [] h = tt
connects-fit peer (c ∷ cs) h = (within peer (suc (length cs)) max64 h, connects-fit (peer + 1) cs (next peer (length cs) max64 h))

entries-fit : (w : ℕ) (es : List EntryLine) (ss : List SettleLine) → w + length es ≤ max64 → AllByRecursion FitsEntry es → AllByRecursion SettleFits ss → AllFit (entry_lines w es ss)
entries-fit w [] ss h p q = tt
entries-fit w (entries.Settle ∷ es) [] h p q = tt
entries-fit w (entries.Settle ∷ es) (s ∷ ss) h p q =
    ((within w (suc (length es)) max64 h, p.0), both (settle_lines s) (entry_lines (w + 1) es ss) q.0 (entries-fit (w + 1) es ss (next w (length es) max64 h) p.1 q.1))
entries-fit w (entries.Frame rec at group ring fate ∷ es) ss h p q = ((within w (suc (length es)) max64 h, p.0), entries-fit (w + 1) es ss (next w (length es) max64 h) p.1 q)
entries-fit w (entries.Time t ∷ es) ss h p q = ((within w (suc (length es)) max64 h, p.0), entries-fit (w + 1) es ss (next w (length es) max64 h) p.1 q)
entries-fit w (entries.Tag group ∷ es) ss h p q = ((within w (suc (length es)) max64 h, p.0), entries-fit (w + 1) es ss (next w (length es) max64 h) p.1 q)
entries-fit w (entries.Move group to ∷ es) ss h p q = ((within w (suc (length es)) max64 h, p.0), entries-fit (w + 1) es ss (next w (length es) max64 h) p.1 q)

strays-fit : (ss : List StrayLine) → AllByRecursion FitsStray ss → AllFit (stray_lines ss)
strays-fit [] p = tt
strays-fit (s ∷ ss) p = (p.0, strays-fit ss p.1)

-- ## Connections
outputs-fit : (os : List OutputLine) → AllByRecursion FitsOutput os → AllFit (output_lines os)
outputs-fit [] p = tt
outputs-fit (o ∷ os) p = (p.0, outputs-fit os p.1)

inputs-fit : (is : List InputLine) → AllByRecursion FitsInputLine is → AllFit (input_lines is)
inputs-fit [] p = tt
inputs-fit (i ∷ is) p = (p.0.kind, both (output_lines i.outputs) (input_lines is) (outputs-fit i.outputs (recursion_from_All FitsOutput i.outputs p.0.outputs)) (inputs-fit is p.1))

order-within : (p : Last) (g n top : ℕ) → p.next + n ≤ top → order_of p g + n ≤ top
order-within p g n top h = by_test (p.group == g)
  where
    by_test : (b : Bool) → (if b then p.next else 0) + n ≤ top
    by_test true = h
    by_test false = omega (arith, h)

conns-fit : (p : Last) (cs : List ConnLine) → p.next + length cs ≤ max64 → AllByRecursion FitsConn cs → AllFit (conn_lines p cs)
conns-fit p [] h fits = tt
conns-fit p (c ∷ cs) h fits =
    let f : FitsConn c = fits.0 in
    let order : order_of p c.group.0 + suc (length cs) ≤ max64 = order-within p c.group.0 (suc (length cs)) max64 h in (
      (f.group, within (order_of p c.group.0) (suc (length cs)) max64 order, f.remote, f.remote_port, f.local_port, f.iss),
      both (input_lines c.inputs) (lines.Left c.left ∷ lines.Answer c.wrote c.taken ∷ conn_lines (with_last p c.group.0) cs)
          (inputs-fit c.inputs (recursion_from_All FitsInputLine c.inputs f.inputs))
          (f.left, ((f.wrote, f.taken), conns-fit (with_last p c.group.0) cs (next (order_of p c.group.0) (length cs) max64 order) fits.1)),
    )

closed-fit : (core : ℕ) (ns : List ℕ) → core + length ns ≤ max64 → AllByRecursion (λ (n : ℕ). n ≤ max32) ns → AllFit (closed_lines core ns)
closed-fit core [] h p = tt
closed-fit core (n ∷ ns) h p = ((within core (suc (length ns)) max64 h, p.0), closed-fit (core + 1) ns (next core (length ns) max64 h) p.1)

-- ## All lines
pub sheet-fits : (r : Sheet) → IsReport r → FitsSheet r → AllByRecursion Fits (sheet_lines r)
sheet-fits r report fits =
    let settles : AllByRecursion SettleFits r.settles = settles-fit r.head.cores r.settles fits.head.0 report.full (recursion_from_All FitsSettle r.settles fits.settles) in
    let opened : List Line = open_lines r.settles in
    let connects : List Line = connect_lines 0 r.connects in
    let entries : List Line = entry_lines 0 r.entries (later r.settles) in
    let strays : List Line = stray_lines r.strays in
    let conns : List Line = conn_lines no_conn r.conns in
    let closed : List Line = closed_lines 0 r.closed in
    let few : 0 + length r.closed ≤ max64 = few-cores r.head.cores (length r.closed) fits.head.0 report.closed in
    let ends : AllFit (lines.End r.replies r.drops ∷ []) = ((fits.replies, fits.drops), tt) in
    let front : AllFit (opened ++ connects) = both opened connects (open-fits r.settles settles) (connects-fit 0 r.connects (from-none (length r.connects) fits.connects)) in
    let wire : AllFit (opened ++ connects ++ entries) =
    both (opened ++ connects) entries front
    (entries-fit 0 r.entries (later r.settles) (from-none (length r.entries) fits.entries_count) (recursion_from_All FitsEntry r.entries fits.entries) (later-fit r.settles settles)) in
    let beside : AllFit (opened ++ connects ++ entries ++ strays) = both (opened ++ connects ++ entries) strays wire (strays-fit r.strays (recursion_from_All FitsStray r.strays fits.strays)) in
    let talks : AllFit (opened ++ connects ++ entries ++ strays ++ conns) =
    both (opened ++ connects ++ entries ++ strays) conns beside (conns-fit no_conn r.conns (from-none (length r.conns) fits.conns_count) (recursion_from_All FitsConn r.conns fits.conns)) in
    both (lines.Head r.head ∷ opened ++ connects ++ entries ++ strays ++ conns ++ closed) (lines.End r.replies r.drops ∷ [])
    (fits.head, both (opened ++ connects ++ entries ++ strays ++ conns) closed talks (closed-fit 0 r.closed few (recursion_from_All _ r.closed fits.closed)))
    ends
