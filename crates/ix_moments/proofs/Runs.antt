-- A whole run.
use Rattle.std.proofs.Common.{◌≡◌, ◌<◌, ◌≤◌, ℕ, false, List, [], ◌∷◌, ◌++◌, length, map, refl, sym, ap, subst, ◌∙◌, append_assoc, append-nil}
use Rattle.std.specs.Prelude.{fold}
use Rattle.std.proofs.lemmas.List.{drop_all}
use Rattle.ix_base.specs.declared.id.TheConstants.{FLOW_GROUPS}
use Rattle.ix_base.specs.declared.id.WireNo.{WireNo}
use Rattle.ix_mbuf.specs.declared.name.Name.{Name}
use Rattle.ix_desk.specs.Views.{View}
use Rattle.ix_order.specs.Steppers.{tagged_by}
use Rattle.ix_stack.specs.declared.work.Work.{Work}
use Rattle.ix_appdef.specs.declared.application.Application.{Application}
use Rattle.ix_conf.specs.Settings.{Settings}
use Rattle.ix_groupdef.specs.declared.env.Env.{Env}
use Rattle.ix_lines.specs.declared.types.SettleLine.{SettleLine}
use Rattle.ix_wire.specs.declared.entry.Entry.{Entry}
use Rattle.ix_wire.specs.Entries.{IsWire, Terms}
use Rattle.ix_feed.specs.Replays.{FeedView, ReplayView, feed_view, left_of}
use Rattle.ix_fits.specs.Card.{entry_of}
use Rattle.ix_fits.specs.Wires.{AreSeen}
use Rattle.ix_carried.specs.Closes.{WiresClose}
use Rattle.ix_plainstack.specs.Stack.{Stack}
use Rattle.ix_engine.specs.Courses.{IsWireFor}
use Rattle.ix_engine.specs.Openings.{StackCore}
use Rattle.ix_engine.specs.Steps.{Engine, EpochStep, EpochSteps}
use Rattle.ix_settled.specs.Moments.{Moment, Opening, lines_of}
use Rattle.ix_settled.specs.Renamed.{IsRenamed, PlaysAreRenamed, named_in}
use Rattle.ix_course.specs.Course.{IsAt, PlayCore, with_names}
use Rattle.ix_worked.specs.Worked.{opening_of}
use Rattle.ix_begun.specs.Begun.{IsBegun, IsInCourse, IsInRange, PlaysBegin}
use Rattle.ix_moments.specs.Runs.{EpochsGoOn, IsNext, RunsArePlayed}
use Rattle.ix_moments.proofs.Lines.{are-seen}
use Rattle.ix_moments.proofs.Named.{all-named, kept-named}

-- ## Settle by settle
module _ (goes_on : EpochsGoOn) (s : Settings) (frames : List (List ℕ)) (entries : List Entry) (env : Env Application) (unit : ℕ → Stack) (desks : ℕ → View Stack Work)
    (range : IsInRange s) (wire : IsWireFor s frames entries) where
  -- the play with its buffers named so
  abbrev play : (WireNo → Name) → Opening
  play name = opening_of s frames env name unit desks

  -- a run that told these settles
  record HasCome (settles : List SettleLine) (y : Engine) : Type 0 where
    name : WireNo → Name
    m : Moment
    ms : List Moment
    lines_are : settles ≡ lines_of (m ∷ ms)
    same : y.replay.entries ≡ entries
    goes : IsInCourse s (play name) y m ms

  lines-so-far : (so_far lines : List SettleLine) (one line : SettleLine) → one ≡ line → so_far ++ line ∷ lines ≡ (so_far ++ one ∷ []) ++ lines
  lines-so-far so_far lines one line is = ap (λ (l : SettleLine). so_far ++ l ∷ lines) (sym is) ∙ sym (append_assoc so_far (one ∷ []) lines)

  comes : (settles lines : List SettleLine) (x y : Engine) (name : WireNo → Name) (m : Moment) (ms : List Moment) → x.replay.entries ≡ entries → IsInCourse s (play name) x m ms
      → settles ≡ lines_of (m ∷ ms) ++ lines → EpochSteps env x lines y → HasCome settles y
  comes settles [] x y name m ms same goes told steps = record {
    name = name;
    m = m;
    ms = ms;
    lines_are = told ∙ append-nil (lines_of (m ∷ ms));
    same = ap (λ (z : Engine). z.replay.entries) steps ∙ same;
    goes = subst (λ (z : Engine). IsInCourse s (play name) z m ms) (sym steps) goes;
  }
  comes settles (line ∷ lines) x y name m ms same goes told steps =
      let step : EpochStep env x steps.0 line = steps.1.0 in
      let n : IsNext s (play name) steps.0 line m ms = goes_on s frames entries (play name) x steps.0 line m ms range wire same refl refl refl refl goes step in
      comes settles lines steps.0 y n.name n.next (m ∷ ms) (step.ran.feed.entries ∙ same) n.goes
      (told ∙ lines-so-far (lines_of (m ∷ ms)) lines n.next.line line n.line_is) steps.1.1

-- ## The end
none-left : (x : ReplayView) → length x.entries ≤ length x.lines → left_of x ≡ []
none-left x out = drop_all (length x.lines) x.entries out

-- behind the whole wire list no tag is open
closes : WiresClose → (terms : Terms) (p : Opening) (x : FeedView) (cores : List PlayCore) (m : Moment) (ms : List Moment) → IsWire terms x.replay.entries → IsAt p x cores m ms
    → length x.replay.entries ≤ length x.replay.lines → (g : ℕ) → g < FLOW_GROUPS → fold (tagged_by g) false (map entry_of m.done) ≡ false
closes close terms p x cores m ms wires at out g lt =
    let all : at.before ≡ x.replay.entries = sym (at.split ∙ ap (λ (es : List Entry). at.before ++ es) (none-left x.replay out) ∙ append-nil at.before) in
    close terms x.replay.entries (map entry_of m.done) wires (subst (λ (es : List Entry). AreSeen es (map entry_of m.done)) all (are-seen at.before m.done at.lines_are)) g lt

-- a play is in its course whatever the frames are named that its cores didn't take
renamed-course : (s : Settings) (p : Opening) (y : Engine) (m : Moment) (ms : List Moment) → IsRenamed p m ms → IsInCourse s p y m ms
    → IsInCourse s (with_names p (named_in m.done p.name)) y m ms
renamed-course s p y m ms named goes = record {
  at = record {
    settled = named.settled;
    told = named.told;
    done = goes.at.done;
    frames = goes.at.frames;
    before = goes.at.before;
    split = goes.at.split;
    lines_are = goes.at.lines_are;
    table = goes.at.table;
    count = goes.at.count;
    batches = goes.at.batches;
    desks = goes.at.desks;
  };
  home = goes.home;
  slots = goes.slots;
  numbers = goes.numbers;
  tells = all-named p (named_in m.done p.name) (m ∷ ms) goes.tells;
  kept = kept-named p (named_in m.done p.name) (m ∷ ms) goes.kept;
  whole = goes.whole;
  own = goes.own;
}

pub runs-are-played : EpochsGoOn → PlaysBegin → WiresClose → PlaysAreRenamed → RunsArePlayed
runs-are-played goes_on begin close rename s frames entries env connects settles y range env_is wire run =
    let begun : IsBegun s frames env connects run.line run.first = begin s frames entries env connects run.line run.first range env_is wire run.begins in
    let come = comes goes_on s frames entries env begun.unit begun.desks range wire settles run.lines run.first y begun.name begun.first []
    (ap (λ (r : ReplayView). r.entries) run.begins.replay) begun.goes (run.settles_are ∙ ap (λ (l : SettleLine). l ∷ run.lines) (sym begun.line_is)) run.steps in
    let p : Opening = opening_of s frames env come.name begun.unit begun.desks in
    let named : IsRenamed p come.m come.ms = rename p come.m come.ms come.goes.at.settled come.goes.at.told in
    let goes = renamed-course s p y come.m come.ms named come.goes in
    record {
      name = named_in come.m.done come.name;
      unit = begun.unit;
      desks = begun.desks;
      m = come.m;
      ms = come.ms;
      played = λ r entries_are settles_are. record {
        env_is = env_is;
        opened = begun.opened (named_in come.m.done come.name);
        settled = named.settled;
        told = named.told;
        agrees = named.agrees;
        tells = goes.tells;
        kept = goes.kept;
        closed = closes close wire.terms p (feed_view y.card y.replay) y.cores come.m come.ms
            (subst (λ (es : List Entry). IsWire wire.terms es) (sym come.same) wire.is) come.goes.at run.out;
        entries = entries_are;
        settles = settles_are;
      };
      settles_are = come.lines_are;
      goes = goes;
    }
