-- A run of the card and the cores, with its close, is a whole play.
use Rattle.std.proofs.Common.{◌≡◌, ◌<◌, ◌≤◌, ℕ, true, List, [], ◌∷◌, length, get_or, refl, ap, sym, subst, ◌∙◌, arith}
use Rattle.std.specs.List.{AllByRecursion, list_all}
use Rattle.ix_base.specs.declared.id.TheConstants.{FLOW_GROUPS}
use Rattle.ix_appdef.specs.declared.application.Application.{Application}
use Rattle.ix_groupdef.specs.declared.env.Env.{Env}
use Rattle.ix_groupdef.specs.declared.types.GroupRecord.{GroupRecord}
use Rattle.ix_conf.specs.Settings.{Settings}
use Rattle.ix_desk.specs.Desks.{group_at}
use Rattle.ix_desk.specs.Groups.{waits}
use Rattle.ix_desk.specs.Views.{View}
use Rattle.ix_stack.specs.declared.work.Work.{Work}
use Rattle.ix_lines.specs.declared.types.ConnectLine.{ConnectLine}
use Rattle.ix_lines.specs.declared.types.EntryLine.{EntryLine}
use Rattle.ix_lines.specs.declared.types.SettleLine.{SettleLine}
use Rattle.ix_trace.specs.declared.sheet.Sheet.{Sheet}
use Rattle.ix_nic.specs.Cards.{CardView}
use Rattle.ix_core.specs.Closing.{CanClose}
use Rattle.ix_plainstack.specs.Stack.{Finishes, Stack, stack_weight}
use Rattle.ix_fits.specs.Card.{are_closed, is_whole}
use Rattle.ix_carried.specs.Laws.{CoursesFit, HasOwnBuffer}
use Rattle.ix_fed.specs.Fed.{CoursesGoOn}
use Rattle.ix_epochs.specs.Ready.{IsReadyToSettle, MeetingsAreReady}
use Rattle.ix_engine.specs.Openings.{StackCore}
use Rattle.ix_engine.specs.Steps.{Engine, HaveMet, IsClosedBy}
use Rattle.ix_settled.specs.Moments.{Opening, lines_of}
use Rattle.ix_owned.specs.Owned.{HasDesks}
use Rattle.ix_worked.specs.Worked.{IsPlayed, opening_of}
use Rattle.ix_whole.specs.Whole.{IsClosed}
use Rattle.ix_begun.specs.Begun.{IsBegun, IsInRange, PlaysBegin}
use Rattle.ix_moments.specs.Runs.{HasMoments, RunsArePlayed}
use Rattle.ix_entire.specs.Entire.{RunsAreWhole, RunsCanClose, outcome_of}
use Rattle.ix_entire.proofs.Close.{all-home, none-after, pools-closed}
use Rattle.ix_entire.proofs.Course.{card-fits}
use Rattle.ix_entire.proofs.Lists.{an-element}
use Rattle.ix_entire.proofs.Rest.{Joins, Names, can-close, group-waits-none, last-settle, met-ready}
use Rattle.ix_entire.proofs.Weights.{AreAtRest, mesh-known}

-- a report of these entries and settles, and of nothing else
plain-sheet : List EntryLine → List SettleLine → Sheet
plain-sheet entries settles = record {
  head = record { cores = 0; batch = 0; buffers = 0 };
  settles = settles;
  connects = [];
  entries = entries;
  strays = [];
  conns = [];
  closed = [];
  replies = 0;
  drops = 0;
}

played-at : (s : Settings) (frames : List (List ℕ)) (env : Env Application) (settles : List SettleLine) (y : Engine) → (h : HasMoments s frames env settles y)
    → IsPlayed s frames (plain-sheet h.m.done (lines_of (h.m ∷ h.ms))) env h.name h.unit h.desks h.m h.ms
unfolding plain-sheet
played-at s frames env settles y h = h.played (plain-sheet h.m.done (lines_of (h.m ∷ h.ms))) refl refl

module _ (join : Joins) (naming : Names) (ready_again : MeetingsAreReady Stack (Env Application)) (s : Settings) (frames : List (List ℕ)) (env : Env Application) (settles : List SettleLine) (y : Engine)
    (range : IsInRange s) (h : HasMoments s frames env settles y) (card : CardView) (cores : List StackCore) (met : HaveMet y.card card y.cores cores) where
  abbrev p : Opening
  p = opening_of s frames env h.name h.unit h.desks

  play : IsPlayed s frames (plain-sheet h.m.done (lines_of (h.m ∷ h.ms))) env h.name h.unit h.desks h.m h.ms
  play = played-at s frames env settles y h

  -- ## It can be closed
  pub closes-then : CanClose card cores
  closes-then =
      can-close join naming ready_again p h.m h.ms y play.opened play.settled play.closed (omega (arith, range.some, range.live)) h.goes.at.count h.goes.at.desks h.goes.home card cores met

  -- ## What stands there
  ready-then : IsReadyToSettle card cores
  ready-then = met-ready join naming ready_again p h.m h.ms y play.opened play.settled play.closed (omega (arith, range.some, range.live)) h.goes.at.count h.goes.at.desks h.goes.home card cores met

  desks-then : (c : ℕ) (d : StackCore) → c < s.cores → (get_or cores c d).desks ≡ h.m.desks c
  desks-then c d lt =
      ap (λ (x : StackCore). x.desks) (met.cores_are.each c d).rest ∙ h.goes.at.desks c d (subst (λ n. c < n) (sym h.goes.at.count) lt)

  count-then : length cores ≡ s.cores
  count-then = met.cores_are.count ∙ h.goes.at.count

  has-desks : HasDesks s.cores h.m.desks cores
  has-desks = record { count = count-then; each = desks-then }

  none-then : (c : ℕ) (d : StackCore) → c < length cores → (get_or cores c d).returns.items ≡ []
  none-then = none-after stack_weight y.card card y.cores cores h.goes.home.ready ready-then.ready met.card_is met.cores_are h.goes.home.none

  at-rest : (n : ℕ) → n ≡ FLOW_GROUPS → AreAtRest n card cores
  at-rest n is = record {
    keeps = ready-then.ready.keep;
    none = none-then;
    comes = mesh-known card cores met.order met.told ready-then.ready.mesh;
    size = λ c d lt. ap (λ (v : View Stack Work). length v.groups) (same c d lt) ∙ (h.goes.home.level c d (low c lt)).size ∙ sym is;
    cut = λ c g d lt below. ap (λ (v : View Stack Work). (group_at v g).cut) (same c d lt) ∙ (h.goes.home.level c d (low c lt)).cut g (omega (arith, below, is));
    early = λ c g d lt below. ap (λ (v : View Stack Work). (group_at v g).early) (same c d lt) ∙ (h.goes.home.level c d (low c lt)).early g (omega (arith, below, is));
    waits_none = λ c g d lt below. ap (λ (v : View Stack Work). waits (group_at v g)) (desks-then c d (subst (λ k. c < k) count-then lt))
        ∙ group-waits-none join naming p h.m play.opened (last-settle p h.m h.ms play.settled) play.closed g c (omega (arith, below, is)) (subst (λ k. c < k) count-then lt);
  }
    where
      low : (c : ℕ) → c < length cores → c < length y.cores
      low c lt = subst (λ k. c < k) met.cores_are.count lt

      same : (c : ℕ) (d : StackCore) → c < length cores → (get_or cores c d).desks ≡ (get_or y.cores c d).desks
      same c d lt = ap (λ (x : StackCore). x.desks) (met.cores_are.each c d).rest

  -- ## The close
  module _ (groups : List GroupRecord) (pools : List ℕ) (card' : CardView) (cores' : List StackCore) (closed : IsClosedBy env groups pools card card' cores cores') where
    pub is-closed : (connects : List ConnectLine) → IsClosed s env h.m (outcome_of connects settles y groups pools)
    is-closed connects = record {
      cores = cores;
      has = has-desks;
      groups = closed.closed.groups.items;
      out = closed.closes.groups.0;
      all = closed.closes.groups.1;
      records = closed.records;
    }

    pub are-closed : are_closed s pools ≡ true
    are-closed = pools-closed s pools count (λ c m lt. each c m (subst (λ n. c < n) (count ∙ sym count-then) lt))
      where
        count : length pools ≡ s.cores
        count = ap length closed.pools_are ∙ closed.closes.pools.count ∙ count-then

        each : (c m : ℕ) → c < length cores → get_or pools c m ≡ s.buffers
        each c m lt =
            let d = an-element cores c lt in
            ap (λ (ns : List ℕ). get_or ns c m) closed.pools_are
            ∙ all-home stack_weight y.card card y.cores cores h.goes.home.ready ready-then.ready met.card_is met.cores_are h.goes.home.none (at-rest 512 refl) h.goes.home.same
            Finishes closed.closed card' cores' closed.closes c m d lt
            ∙ ap (λ (x : StackCore). x.pool.n) (met.cores_are.each c d).rest ∙ h.goes.slots c d (subst (λ n. c < n) met.cores_are.count lt)

-- ## The laws
pub runs-can-close : RunsArePlayed → Joins → Names → MeetingsAreReady Stack (Env Application) → RunsCanClose
runs-can-close played join naming ready_again s frames entries env connects settles y card cores range is_env is_wire run met =
    closes-then join naming ready_again s frames env settles y range (played s frames entries env connects settles y range is_env is_wire run) card cores met

pub runs-are-whole : PlaysBegin → RunsArePlayed → CoursesGoOn → CoursesFit → Joins → Names → MeetingsAreReady Stack (Env Application) → RunsAreWhole
runs-are-whole begin played go fit join naming ready_again s frames entries env connects settles y card card' cores cores' groups pools range is_env is_wire run met closed =
    let h : HasMoments s frames env settles y = played s frames entries env connects settles y range is_env is_wire run in
    let b : IsBegun s frames env connects run.line run.first = begin s frames entries env connects run.line run.first range is_env is_wire run.begins in
    let own : AllByRecursion (HasOwnBuffer s.buffers) y.replay.lines = subst (λ (ls : List EntryLine). AllByRecursion (HasOwnBuffer s.buffers) ls) h.goes.at.done h.goes.own in
    record {
      name = h.name;
      unit = h.unit;
      desks = h.desks;
      m = h.m;
      ms = h.ms;
      whole = record {
        played = h.played;
        entries = sym h.goes.at.done;
        settles = h.settles_are;
        card = card-fits go fit s frames entries env connects settles y range is_wire run b.card own;
        whole = subst (λ (ls : List SettleLine). list_all (is_whole s.cores s.buffers) ls ≡ true) (sym h.settles_are) h.goes.whole;
        connects = b.answers;
        records = is-closed join naming ready_again s frames env settles y range h card cores met groups pools card' cores' closed connects;
        closed = are-closed join naming ready_again s frames env settles y range h card cores met groups pools card' cores' closed;
      };
    }
