-- From one moment of a play's course to the next.
use Rattle.std.proofs.Common.{◌≡◌, ◌*◌, ◌^◌, ◌<◌, ◌≤◌, ℕ, true, List, [], ◌∷◌, ◌++◌, length, map, get_or, refl, sym, ap, subst, ◌∙◌, arith}
use Rattle.std.specs.List.{AllByRecursion, list_all}
use Rattle.ix_mbuf.specs.Buffers.{Buffer}
use Rattle.ix_appdef.specs.declared.application.Application.{Application}
use Rattle.ix_conf.specs.Settings.{Settings}
use Rattle.ix_groupdef.specs.declared.env.Env.{Env}
use Rattle.ix_desk.specs.Desks.{group_at}
use Rattle.ix_desk.specs.Views.{View}
use Rattle.ix_history.specs.Join.{NowhereElse}
use Rattle.ix_history.specs.Laws.{JoinLaw}
use Rattle.ix_lines.specs.declared.types.EntryLine.{EntryLine}
use Rattle.ix_lines.specs.declared.types.SettleLine.{SettleLine}
use Rattle.ix_stack.specs.declared.work.Work.{Work}
use Rattle.ix_wire.specs.declared.entry.Entry.{Entry}
use Rattle.ix_wire.specs.Entries.{IsWire}
use Rattle.ix_core.specs.declared.settling.SettleReport.{SettleReport}
use Rattle.ix_core.specs.Homing.{EachIs}
use Rattle.ix_core.specs.Settling.{Settles}
use Rattle.ix_feed.specs.Replays.{FeedView, feed_view, left_of}
use Rattle.ix_fits.specs.Card.{entry_of, is_whole, opening_table}
use Rattle.ix_carried.specs.Laws.{HasOwnBuffer}
use Rattle.ix_plainstack.specs.Batches.{is_frame_work, work_number}
use Rattle.ix_plainstack.specs.Stack.{Advances, Drains, Stack, owners_at, stack_weight}
use Rattle.ix_epochs.specs.Playing.{EpochsArePlayed}
use Rattle.ix_engine.specs.Courses.{IsWireFor}
use Rattle.ix_engine.specs.Openings.{StackCore}
use Rattle.ix_engine.specs.Steps.{Engine, EpochStep, begun}
use Rattle.ix_homes.specs.Homes.{IsHome}
use Rattle.ix_slots.specs.Slots.{HasRing}
use Rattle.ix_tells.specs.Stays.{AreAlone, HomesStay}
use Rattle.ix_tells.specs.Wholes.{HaveSlots, LineTells, SettlesAreWhole}
use Rattle.ix_settled.specs.Moments.{AtSettle, Moment, Opening, lines_of, stack_steps}
use Rattle.ix_course.specs.Course.{EpochsReachSettles, IsAt, Reached, SettlesStay, with_names}
use Rattle.ix_owned.specs.Owned.{HasDesks, NotPrinted, TellsOwners}
use Rattle.ix_owning.specs.Owning.{OwnersAreTold}
use Rattle.ix_pools.specs.Pools.{CoreStays, DesksStay, EpochsKeepPools, FramesOfEpochsAreOwn, SettlesKeepPools, SlotsStay}
use Rattle.ix_pools.specs.Rings.{EpochsStayWithin, IsWithin}
use Rattle.ix_printed.specs.Printed.{UsesAreNotPrinted}
use Rattle.ix_begun.specs.Begun.{IsInCourse, IsInRange}
use Rattle.ix_moments.specs.Runs.{EpochsGoOn, IsNext}
use Rattle.ix_moments.proofs.Few.{feeds-count, few-fills}
use Rattle.ix_moments.proofs.Lines.{all-append, line-tells, one-more-passes}
use Rattle.ix_moments.proofs.Named.{all-named, kept-named}

-- the laws of an epoch and of a settle
pub record EpochLaws : Type 0 where
  pub reaches : EpochsReachSettles
  pub stays : SettlesStay
  pub plays : EpochsArePlayed is_frame_work work_number stack_steps Advances Drains
  pub joins : JoinLaw is_frame_work work_number stack_steps Advances Drains
  pub homes : HomesStay Stack (Env Application) is_frame_work work_number stack_steps Advances Drains stack_weight owners_at
  pub whole : SettlesAreWhole Stack (Env Application) Drains stack_weight owners_at
  pub epochs_keep : EpochsKeepPools Stack (Env Application) is_frame_work work_number stack_steps Advances Drains
  pub settles_keep : SettlesKeepPools Stack (Env Application)
  pub slots : SlotsStay Stack (Env Application)
  pub frames : FramesOfEpochsAreOwn Stack (Env Application) is_frame_work work_number stack_steps Advances Drains stack_weight
  pub within : EpochsStayWithin
  pub owners : OwnersAreTold
  pub printed : UsesAreNotPrinted

module _ (laws : EpochLaws) (s : Settings) (frames : List (List ℕ)) (entries : List Entry) (p : Opening) (x y : Engine) (line : SettleLine) (m : Moment) (ms : List Moment)
    (range : IsInRange s) (wire : IsWireFor s frames entries) (same_entries : x.replay.entries ≡ entries) (as_cores : p.cores ≡ s.cores) (as_live : p.live ≡ s.live)
    (was : IsInCourse s p x m ms) (step : EpochStep p.env x y line) where
  -- the card with what it is fed: when the epoch begins, when it is over, and behind the settle
  abbrev begins : FeedView
  begins = feed_view x.card (begun x.replay)

  abbrev over : FeedView
  over = feed_view step.card y.replay

  abbrev behind : FeedView
  behind = feed_view y.card y.replay

  abbrev report : SettleReport
  report = step.settled.report

  settles : Settles owners_at report step.card y.card step.cores y.cores
  settles = step.settled.settles

  -- ## What stays
  some : 1 ≤ length x.cores
  some = omega (arith, range.some, range.live, as_cores, was.at.count)

  wires : IsWire wire.terms x.replay.entries
  wires = subst (λ (es : List Entry). IsWire wire.terms es) (sym same_entries) wire.is

  as_many : wire.terms.cores ≡ p.cores
  as_many = wire.cores ∙ sym as_cores

  at_begin : IsAt p begins x.cores m ms
  at_begin = laws.stays p (feed_view x.card x.replay) begins x.cores x.cores m ms was.at refl refl refl refl refl (λ c d lt. (refl, refl))

  in_epoch : EachIs CoreStays x.cores step.cores
  in_epoch = laws.epochs_keep p.env begins over x.cores step.cores step.ran

  in_settle : EachIs DesksStay step.cores y.cores
  in_settle = laws.settles_keep owners_at report step.card y.card step.cores y.cores settles

  -- ## The moment
  reached : Reached p over step.cores m ms line
  reached =
      laws.reaches wire.terms p begins over x.cores step.cores m ms line wires as_many at_begin refl step.ran.over.ended.0 (was.home.ready.order.count ∙ was.at.count) in_epoch.count
      (λ c d lt. (in_epoch.each c d lt).batch) step.ran.feed (laws.plays p.env begins over x.cores step.cores was.home.ready step.ran)

  abbrev q : Opening
  q = with_names p reached.name

  abbrev next : Moment
  next = reached.next

  at_next : IsAt q behind y.cores next (m ∷ ms)
  at_next =
      laws.stays q over behind step.cores y.cores next (m ∷ ms) reached.at refl refl refl settles.table in_settle.count
      (λ c d lt. ((in_settle.each c d lt).desks, (in_settle.each c d lt).stays.batch))

  desks_were : HasDesks q.cores m.desks x.cores
  desks_were = record { count = was.at.count; each = λ c d lt. was.at.desks c d (subst (λ n. c < n) (sym was.at.count) lt) }

  desks_are : HasDesks q.cores next.desks y.cores
  desks_are = record { count = at_next.count; each = λ c d lt. at_next.desks c d (subst (λ n. c < n) (sym at_next.count) lt) }

  -- ## The buffers
  settle : AtSettle q next
  settle = reached.at.settled.0

  nowhere : (g : ℕ) → g < 512 → NowhereElse is_frame_work work_number stack_steps Advances Drains p.env q.cores g (opening_table q.live) (map entry_of next.done) next.desks
  nowhere g lt = (laws.joins p.env q.cores g (opening_table q.live) (map entry_of next.done) q.unit q.desks next.desks next.history settle.played lt).1

  alone : AreAlone step.cores
  alone c d lt =
      let here : c < q.cores = subst (λ n. c < n) reached.at.count lt in
      record {
        cut = λ g within. ap (λ (v : View Stack Work). (group_at v g).cut) (reached.at.desks c d lt) ∙ (nowhere g within).no_cut c here;
        early = λ g within. ap (λ (v : View Stack Work). (group_at v g).early) (reached.at.desks c d lt) ∙ (nowhere g within).no_early c here;
      }

  home : IsHome Drains stack_weight y.card y.cores
  home = laws.homes p.env begins over y.card report x.cores step.cores y.cores some was.home step.ran alone settles

  slots_now : HaveSlots s.buffers y.cores
  slots_now =
      laws.slots s.buffers step.cores y.cores (record { count = in_settle.count; each = λ c d lt. (in_settle.each c d lt).stays })
      (laws.slots s.buffers x.cores step.cores in_epoch was.slots)

  -- ## The epoch's frames
  within : IsWithin p.cores step.ran.feed.carried step.ran.feed.told
  within =
      laws.within wire.terms p begins over x.cores m ms wires as_many (subst (λ n. 1 ≤ n) (sym as_live) range.some) (omega (arith, range.live, as_live, as_cores)) at_begin step.ran.feed

  rings : AllByRecursion (HasRing (length x.cores)) step.ran.feed.told
  rings = subst (λ n. AllByRecursion (HasRing n) step.ran.feed.told) (sym was.at.count) within.rings

  few : length x.cores * length step.ran.feed.told < 2 ^ 32
  few =
      few-fills wire.terms x.replay.entries at_begin.before step.ran.feed.carried (left_of over.replay) (length x.cores) (length step.ran.feed.told) wires.so_far
      (at_begin.split ∙ ap (λ (es : List Entry). at_begin.before ++ es) step.ran.feed.left) step.ran.feed.epoch (feeds-count _ _ _ _ _ _ _ step.ran.feed.fed)
      (omega (arith, range.cores, as_cores, was.at.count))

  own_now : AllByRecursion (HasOwnBuffer s.buffers) next.done
  own_now =
      subst (λ (ls : List EntryLine). AllByRecursion (HasOwnBuffer s.buffers) ls)
      (ap (λ (ls : List EntryLine). ls ++ step.ran.feed.told) was.at.done ∙ sym step.ran.feed.lines ∙ sym reached.at.done)
      (all-append (HasOwnBuffer s.buffers) m.done step.ran.feed.told was.own (laws.frames s.buffers p.env begins over x.cores step.cores some was.slots was.home step.ran rings))

  -- ## The settle's line
  line_tells : LineTells next.line report
  line_tells = subst (λ (l : SettleLine). LineTells l report) (sym reached.line_is) (line-tells line report step.settled.rings step.settled.homes)

  tells_next : TellsOwners q next
  tells_next = laws.owners q s.buffers next report step.card y.card step.cores y.cores range.buffers slots_now home settles line_tells desks_are

  printed_next : NotPrinted q m next
  printed_next = laws.printed q p.env m next begins over y.card report x.cores step.cores y.cores was.home step.ran settles desks_were desks_are was.at.done reached.at.done rings few

  line_whole : is_whole s.cores s.buffers next.line ≡ true
  line_whole =
      subst (λ n. is_whole n s.buffers next.line ≡ true) (reached.at.count ∙ as_cores)
      (laws.whole s.buffers next.line report step.card y.card step.cores y.cores range.buffers slots_now home settles line_tells)

  is_next : IsNext s p y line m ms
  is_next = record {
    name = reached.name;
    same = reached.same;
    next = next;
    line_is = reached.line_is;
    goes = record {
      at = at_next;
      home = home;
      slots = slots_now;
      numbers = settles.order.numbers;
      tells = (tells_next, all-named p reached.name (m ∷ ms) was.tells);
      kept = (printed_next, kept-named p reached.name (m ∷ ms) was.kept);
      whole = one-more-passes (is_whole s.cores s.buffers) (lines_of (m ∷ ms)) next.line was.whole line_whole;
      own = own_now;
    };
  }

pub epochs-go-on : EpochLaws → EpochsGoOn
epochs-go-on laws s frames entries p x y line m ms range wire same_entries as_cores as_live as_batch as_frames was step =
    is_next laws s frames entries p x y line m ms range wire same_entries as_cores as_live was step
