-- Of each group, the cycles that are read leave what its cycles leave, also up to a settle.
use Rattle.std.proofs.Common.{◌≡◌, ℕ, suc, ◌<◌, refl, sym, ap, ◌∙◌, subst, Bool, true, false, List, [], ◌∷◌, ◌++◌, arith}
use Rattle.std.specs.Prelude.{if◌then◌else◌}
use Rattle.std.specs.List.{AllByRecursion}
use Rattle.std.proofs.lemmas.Bool.{ne_eqb}
use Rattle.ix_base.specs.declared.id.CoreId.{CoreId}
use Rattle.ix_groupdef.specs.declared.types.Taken.{Taken}
use Rattle.ix_groupdef.specs.declared.types.Turn.{Turn}
use Rattle.ix_groupdef.specs.Group.{Group, Cycle, Frames, Time, Connect, connect_all, empty, last_number, run, run_cycle, run_cycles, take_frames, turn_of}
use Rattle.ix_groupdef.specs.Laws.{AreRuns}
use Rattle.ix_groupdef.specs.Life.{Life}
use Rattle.ix_groupdef.specs.Places.{RiseFrom}
use Rattle.ix_groupdef.specs.Record.{record_of}
use Rattle.ix_groupdef.specs.Rest.{AllRest, ClosedStays}
use Rattle.ix_groupdef.specs.Setting.{Setting}
use Rattle.ix_groupdef.specs.Whole.{HasEntry}
use Rattle.ix_lines.specs.declared.types.ConnLine.{ConnLine}
use Rattle.ix_lines.specs.declared.types.EntryLine.{EntryLine}
use Rattle.ix_fits.specs.Cutting.{Due, IsCutting}
use Rattle.ix_fits.specs.Journals.{are_journals}
use Rattle.ix_fits.specs.Owners.{below, is_below}
use Rattle.ix_fits.specs.Read.{cutting_read, is_flushed, is_heard}
use Rattle.ix_fits.proofs.Reader.{AllMarked, Marked, read-all}
use Rattle.ix_fits.proofs.ReadEdges.{Edge, RiseDues, all-sided, frames-range}
use Rattle.ix_fits.proofs.ReadLines.{IsEven, lines-flushed, lines-heard, one_flushes, one_hears}
use Rattle.ix_fits.proofs.ReadMarks.{AreBelow, AreTold, EndIs, IsOtherCycle, all-heard, all-runs-even, connects-below, cycle-even, cycle-flushes, cycle-heard, cycles-flushes, cycles-heard, frames-even, frames-marked, none-below, over-other, under-other}
use Rattle.ix_fits.proofs.ReadSplit.{AlwaysRest, AtRest, IsUnder, always-rest, below-all, cut-all, cut-entries, rest-at, run-next, run-split-all, split_all}

-- ## Later cycles have other numbers
over-cycles : (batch : ℕ) (cs : List Cycle) (ds : List Due) (next n : ℕ) → IsCutting batch ds cs → RiseDues next ds → n < next → AllByRecursion (IsOtherCycle n) cs
over-cycles batch [] ds next n p rise lt = tt
over-cycles batch (Frames core ts ∷ cs) ds next n p rise lt =
    let r = frames-range core p.1.tenure p.1.settles next ts p.0 (subst (RiseDues next) p.1.cut rise) in
    (over-other n next ts lt r.rise, over-cycles batch cs p.0 r.next n p.2 r.later (omega (arith, lt, r.above)))
over-cycles batch (Time core w t ∷ cs) ds next n p rise lt =
    let r = subst (RiseDues next) p.1.cut rise in
    (ne_eqb w.0 n (λ e. omega (arith, e, lt, r.0)), over-cycles batch cs p.0 (suc w.0) n p.2 r.1 (omega (arith, lt, r.0)))

-- ## All cycles are marked
end-is : (ts : List Taken) → EndIs (last_number ts) ts
end-is [] = tt
end-is (t ∷ ts) = refl

cycle-marked : (env : Setting) → ClosedStays → (conns : List ConnLine) (core : CoreId) (next lo : ℕ) (ts : List Taken) (g : Group)
    → AllByRecursion (AtRest env) g.lives → AllByRecursion IsEven g.lives → AreBelow lo g.lives → RiseFrom lo ts → AllByRecursion (IsUnder next) ts
    → AreTold conns next (run_cycle env (Frames core ts) g).lives (run_cycle env (Frames core ts) g).lives → Marked env g.lives conns ts
unfolding run_cycle
cycle-marked env stays conns core next lo ts g rest even low rise under told =
    let turn : Turn = turn_of g.clock core (last_number ts) in
    let k : Group = take_frames env turn ts g in
    frames-marked env stays conns turn next lo ts g k rest even low refl rise under (end-is ts)
    (record { heard = λ n lt. told.heard n lt ∙ all-heard n env false turn k.lives (frames-even env turn ts g even); flushed = told.flushed })

-- the lines tell of each number what these connections have
record TellAll (conns : List ConnLine) (ls : List Life) : Type 0 where
  heard : (n : ℕ) → is_heard conns n ≡ one_hears n ls
  flushed : (n : ℕ) → is_flushed conns n ≡ one_flushes n ls

marks-all : (env : Setting) → ClosedStays → (asked : List Connect) → AlwaysRest env asked → (conns : List ConnLine) (batch : ℕ) (before cs : List Cycle) (ds : List Due) (lo : ℕ) (g : Group)
    → g ≡ run env asked before → AllByRecursion IsEven g.lives → IsCutting batch ds cs → RiseDues lo ds → AreBelow lo g.lives → TellAll conns (run_cycles env cs g).lives → AllMarked env conns g cs
marks-all env stays asked always conns batch before [] ds lo g is even p rise low told = tt
marks-all env stays asked always conns batch before (Frames core ts ∷ cs) ds lo g is even p rise low told =
    let r = frames-range core p.1.tenure p.1.settles lo ts p.0 (subst (RiseDues lo) p.1.cut rise) in
    let c : Cycle = Frames core ts in
    let h : Group = run_cycle env c g in
    let later = cycle-even env c g even in (
      cycle-marked env stays conns core r.next lo ts g (rest-at env asked before g always is) even low r.rise r.under
          (record {
            heard = λ n lt. told.heard n ∙ cycles-heard n env cs h later (over-cycles batch cs p.0 r.next n p.2 r.later lt);
            flushed = λ n lt. told.flushed n ∙ cycles-flushes n env cs h later (over-cycles batch cs p.0 r.next n p.2 r.later lt);
          }),
      marks-all env stays asked always conns batch (before ++ c ∷ []) cs p.0 r.next h (run-next env asked before c g is) later p.2 r.later
          (record {
            heard = λ n ge. cycle-heard n env c g even (under-other n r.next ts ge r.under) ∙ low.heard n (omega (arith, ge, r.above));
            flushes = λ n ge. cycle-flushes n env c g even (under-other n r.next ts ge r.under) ∙ low.flushes n (omega (arith, ge, r.above));
          }) told,
    )
marks-all env stays asked always conns batch before (Time core w t ∷ cs) ds lo g is even p rise low told =
    let r = subst (RiseDues lo) p.1.cut rise in
    let c : Cycle = Time core w t in
    let h : Group = run_cycle env c g in (
      tt,
      marks-all env stays asked always conns batch (before ++ c ∷ []) cs p.0 (suc w.0) h (run-next env asked before c g is) (cycle-even env c g even) p.2 r.1
          (record {
            heard = λ n ge. cycle-heard n env c g even (ne_eqb w.0 n (λ e. omega (arith, e, ge))) ∙ low.heard n (omega (arith, ge, r.0));
            flushes = λ n ge. cycle-flushes n env c g even (ne_eqb w.0 n (λ e. omega (arith, e, ge))) ∙ low.flushes n (omega (arith, ge, r.0));
          }) told,
    )

-- ## One group
below-has : (n : ℕ) (cs : List Cycle) → AllByRecursion HasEntry cs → AllByRecursion HasEntry (below n cs)
below-has n [] p = tt
below-has n (c ∷ cs) p = by_test (is_below n c) (below-has n cs p.1)
  where
    by_test : (b : Bool) → AllByRecursion HasEntry (below n cs) → AllByRecursion HasEntry (if b then c ∷ below n cs else [])
    by_test true ih = (p.0, ih)
    by_test false ih = tt

pub record ReadsWell (env : Setting) (asked : List Connect) (batch : ℕ) (ds : List Due) (conns : List ConnLine) (cs : List Cycle) : Type 0 where
  pub cut : IsCutting batch ds (cutting_read conns ds)
  pub whole : run env asked (cutting_read conns ds) ≡ run env asked cs
  pub up_to : (n : ℕ) → Edge n ds → run env asked (below n (cutting_read conns ds)) ≡ run env asked (below n cs)

pub reads-well : AllRest → ClosedStays → AreRuns → (env : Setting) → env.answer false [] ≡ [] → (asked : List Connect) (batch : ℕ) (ds : List Due) (conns : List ConnLine) (cs : List Cycle) (entries : List EntryLine)
    → IsCutting batch ds cs → RiseDues 0 ds → are_journals entries (record_of env (run env asked cs)).conns conns ≡ true → ReadsWell env asked batch ds conns cs
reads-well rests stays runs env first asked batch ds conns cs entries p rise told =
    let g : Group = connect_all env asked empty in
    let always = always-rest rests env first asked in
    let has = cut-entries batch ds cs p in
    let marked : AllMarked env conns g cs =
    marks-all env stays asked always conns batch [] cs ds 0 g refl (all-runs-even g.lives (runs env asked [])) p rise (connects-below env asked empty none-below)
    (record {
      heard = λ n. lines-heard n env entries (run env asked cs).lives conns told;
      flushed = λ n. lines-flushed n env entries (run env asked cs).lives conns (all-runs-even (run env asked cs).lives (runs env asked cs)) told;
    }) in
    let is : cutting_read conns ds ≡ split_all env g cs = read-all env conns batch cs ds g p marked in
    record {
      cut = subst (IsCutting batch ds) (sym is) (cut-all env batch cs ds g p);
      whole = ap (run env asked) is ∙ run-split-all env stays asked always [] cs g refl has;
      up_to = λ n edge.
          ap (λ (xs : List Cycle). run env asked (below n xs)) is
          ∙ ap (run env asked) (below-all env n cs g (all-sided batch n edge.mark cs ds p edge.each) has)
          ∙ run-split-all env stays asked always [] (below n cs) g refl (below-has n cs has);
    }
