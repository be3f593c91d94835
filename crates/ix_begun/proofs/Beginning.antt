-- A play that began is in its course.
use Rattle.std.proofs.Common.{◌≡◌, ◌<◌, ◌≤◌, ◌&&◌, ℕ, Bool, true, false, List, [], ◌∷◌, true≢false, inl, inr, length, get_or, filter, refl, sym, ap, subst, ◌∙◌, arith, eq-eqb}
use Rattle.std.specs.Prelude.{◌==◌, if◌then◌else◌, count_by}
use Rattle.std.specs.List.{AllByRecursion, list_all}
use Rattle.std.proofs.lemmas.Bool.{cases_eq, eqb-true}
use Rattle.std.proofs.lemmas.List.{get_or_default}
use Rattle.ix_base.specs.declared.id.TheConstants.{FLOW_GROUPS}
use Rattle.ix_base.specs.declared.id.WireNo.{WireNo}
use Rattle.ix_mbuf.specs.declared.name.Name.{Name}
use Rattle.ix_mbuf.specs.Pools.{Stock}
use Rattle.ix_desk.specs.Desks.{group_at}
use Rattle.ix_desk.specs.Groups.{at_home, empty, unit_of}
use Rattle.ix_desk.specs.Views.{Group, View}
use Rattle.ix_stack.specs.declared.work.Work.{Work}
use Rattle.ix_appdef.specs.declared.application.Application.{Application}
use Rattle.ix_groupdef.specs.declared.env.Env.{Env}
use Rattle.ix_groupdef.specs.Env.{setting_of}
use Rattle.ix_groupdef.specs.Group.{Connect}
use Rattle.ix_groupdef.specs.Setting.{Setting}
use Rattle.ix_conf.specs.Settings.{Settings}
use Rattle.ix_playdef.specs.Connects.{is_asked_in}
use Rattle.ix_playdef.specs.Setting.{is_push, setting_of_play}
use Rattle.ix_lines.specs.declared.types.ConnectLine.{ConnectLine}
use Rattle.ix_lines.specs.declared.types.SettleLine.{SettleLine}
use Rattle.ix_wire.specs.declared.entry.Entry.{Entry}
use Rattle.ix_wire.specs.Entries.{IsWire}
use Rattle.ix_reta.specs.Table.{opening_core}
use Rattle.ix_epochs.specs.Ready.{MeetingsAreReady, OpeningsAreReady}
use Rattle.ix_feed.specs.Replays.{ReplayView, feed_view, is_move}
use Rattle.ix_fits.specs.Card.{is_whole, opening_table}
use Rattle.ix_fits.specs.Connects.{answers_from, answers_of, asked_from, asked_in}
use Rattle.ix_plainstack.specs.Stack.{Drains, Stack, empty_stack, owners_at, stack_weight}
use Rattle.ix_plainstack.specs.Standing.{Stands}
use Rattle.ix_carried.specs.Laws.{HasOwnBuffer}
use Rattle.ix_dials.specs.Dials.{AreDialed, DialsAreAsked, HasHomes, StandAtFirst}
use Rattle.ix_engine.specs.Courses.{HasBegun, IsWireFor, peers_of}
use Rattle.ix_engine.specs.Openings.{StackCore}
use Rattle.ix_engine.specs.Steps.{Engine}
use Rattle.ix_homes.specs.Homes.{IsHome}
use Rattle.ix_tells.specs.Stays.{OpeningsAreHome}
use Rattle.ix_tells.specs.Wholes.{LineTells, SettlesAreWhole}
use Rattle.ix_settled.specs.Moments.{IsOpened, Opening}
use Rattle.ix_course.specs.Course.{Begins, IsAt, OpeningsBegin}
use Rattle.ix_owned.specs.Owned.{HasDesks}
use Rattle.ix_owning.specs.Owning.{OwnersAreTold}
use Rattle.ix_worked.specs.Worked.{IsEnvOf, opening_of}
use Rattle.ix_begun.specs.Begun.{IsInCourse, IsInRange, PlaysBegin}
use Rattle.ix_begun.proofs.Bare.{stack-is, stack_in}
use Rattle.ix_begun.proofs.Card.{is-opening, line-tells}
use Rattle.ix_begun.proofs.Homes.{is-home}
use Rattle.ix_begun.proofs.Through.{after-batch, after-count, after-desks, after-home, after-slots, after-table, dialed-count, dialed-desks, first-is, met-count, open-core, open-home, other-is, seats-are}

-- ## The connects
asked-peers : (push : Bool) (e : Setting) (live : ℕ) (peers : List (ℕ × ℕ)) → asked_from e live [] (if push then peers else []) ≡ (if push then asked_from e live [] peers else [])
asked-peers true e live peers = refl
asked-peers false e live peers = refl

answers-peers : (push : Bool) (e : Setting) (live : ℕ) (peers : List (ℕ × ℕ)) → answers_from e live [] (if push then peers else []) ≡ (if push then answers_from e live [] peers else [])
answers-peers true e live peers = refl
answers-peers false e live peers = refl

asked-same : (s : Settings) (frames : List (List ℕ)) (env : Env Application) → setting_of env ≡ setting_of_play s frames → (g : ℕ)
    → filter (is_asked_in env.local.ip g) (asked_from (setting_of env) s.live [] (peers_of s)) ≡ asked_in (setting_of_play s frames) s g
asked-same s frames env is g =
    ap (λ (e : Setting). filter (is_asked_in e.local.ip g) (asked_from e s.live [] (peers_of s))) is
    ∙ ap (filter (is_asked_in s.ip g)) (asked-peers (is_push s.app) (setting_of_play s frames) s.live s.peers)

answers-same : (s : Settings) (frames : List (List ℕ)) (env : Env Application) → setting_of env ≡ setting_of_play s frames
    → answers_from (setting_of env) s.live [] (peers_of s) ≡ answers_of (setting_of_play s frames) s
answers-same s frames env is =
    ap (λ (e : Setting). answers_from e s.live [] (peers_of s)) is ∙ answers-peers (is_push s.app) (setting_of_play s frames) s.live s.peers

-- ## Tests
not-zero : (k : ℕ) → (0 == k) ≡ false → k ≡ 0 → ⊥
not-zero k apart same = true≢false (sym (eq-eqb 0 k (sym same)) ∙ apart)

home-unit : (b : Bool) (u v : Stack) → (b ≡ true → u ≡ v) → (let x : Group Stack Work = (if b then at_home u else empty) in x) ≡ (if b then at_home v else empty)
home-unit true u v same = ap (λ (z : Stack). at_home z) (same refl)
home-unit false u v same = refl

-- any naming
no_name : WireNo → Name
no_name w = record { id = record { home = record { 0 = 0 }; slot = 0 }; uses = 0 }

module _ (s : Settings) (frames : List (List ℕ)) (entries : List Entry) (env : Env Application) (connects : List ConnectLine) (line : SettleLine) (x : Engine)
    (range : IsInRange s) (is_env : IsEnvOf s frames env) (wire : IsWireFor s frames entries) (b : HasBegun s frames entries env connects line x)
    (first : StandAtFirst) (asked : DialsAreAsked) where
  some : 1 ≤ s.cores
  some = omega (arith, range.some, range.live)

  -- the desks of each core behind the connects, and the stack of each group
  abbrev desks_of : ℕ → View Stack Work
  desks_of c = (get_or b.dialed c b.dials.first).desks

  abbrev unit_at : ℕ → Stack
  unit_at g = stack_in (unit_of (group_at b.dials.first.desks g))

  abbrev play : (WireNo → Name) → Opening
  play name = opening_of s frames env name unit_at desks_of

  abbrev first_core : StackCore
  first_core = get_or b.cores 0 b.dials.first

  -- ## Connects
  first-homes : HasHomes s.live 0 (λ g. empty_stack) first_core.desks
  first-homes = record {
    size = (open-core s frames entries env connects line x b 0 b.dials.first some).is.groups;
    home = λ g lt. open-home s frames entries env connects line x b 0 b.dials.first some g lt;
  }

  are-dialed : (name : WireNo → Name) → AreDialed env name s.live [] (peers_of s) (b.dials.is b.dials.first).rets (λ g. empty_stack) first_core b.dials.first
  are-dialed name =
      asked env name s.live 0 (peers_of s) (b.dials.is b.dials.first).rets [] (λ g. empty_stack) first_core b.dials.first
      (ap (λ (p : Stock). p.home.0) (open-core s frames entries env connects line x b 0 b.dials.first some).is.pool_is) (first env name s.live) first-homes (b.dials.is b.dials.first).dials

  unit-is : (name : WireNo → Name) (g : ℕ) → g < FLOW_GROUPS → unit_at g ≡ (are-dialed name).now g
  unit-is name g lt =
      stack-is (0 == (opening_core s.live g).0) (group_at b.dials.first.desks g) ((are-dialed name).now g) ((are-dialed name).homes.home g lt)
      (λ apart. (are-dialed name).others g lt (not-zero (opening_core s.live g).0 apart))

  unit-other : (g : ℕ) → g < FLOW_GROUPS → ((opening_core s.live g).0 ≡ 0 → ⊥) → unit_at g ≡ empty_stack
  unit-other g lt other = unit-is no_name g lt ∙ (are-dialed no_name).others g lt other

  is-opened : (name : WireNo → Name) → IsOpened (play name)
  is-opened name = record {
    stands = λ g lt.
        subst (λ (u : Stack). Stands env name (asked_in (setting_of_play s frames) s g) [] u) (sym (unit-is name g lt))
        (subst (λ (cs : List Connect). Stands env name cs [] ((are-dialed name).now g)) (asked-same s frames env b.env_is g) ((are-dialed name).stand.stands g lt));
    steps = λ g lt. ap (λ (u : Stack). u.steps) (unit-is name g lt) ∙ (are-dialed name).stand.steps g lt;
  }

  answers : connects ≡ answers_of (setting_of_play s frames) s
  answers = (b.dials.is b.dials.first).lines ∙ (are-dialed no_name).told ∙ answers-same s frames env b.env_is

  -- ## Desks
  homes : (c g : ℕ) → c < s.cores → g < FLOW_GROUPS → group_at (desks_of c) g ≡ (if c == (opening_table s.live g).core then at_home (unit_at g) else empty)
  homes c g lt low =
      elim (cases_eq c 0) [
        | inl same ↦
            subst (λ (k : ℕ). group_at (desks_of k) g ≡ (if k == (opening_core s.live g).0 then at_home (unit_at g) else empty)) (sym same)
            (ap (λ (k : StackCore). group_at k.desks g) (first-is s frames entries env connects line x b b.dials.first some) ∙ (are-dialed no_name).homes.home g low
            ∙ ap (λ (u : Stack). (let z : Group Stack Work = (if 0 == (opening_core s.live g).0 then at_home u else empty) in z)) (sym (unit-is no_name g low)))
        | inr other ↦
            ap (λ (k : StackCore). group_at k.desks g) (other-is s frames entries env connects line x b c b.dials.first other)
            ∙ open-home s frames entries env connects line x b c b.dials.first lt g low
            ∙ home-unit (c == (opening_core s.live g).0) empty_stack (unit_at g)
            (λ here. sym (unit-other g low (λ zero. other (eqb-true c (opening_core s.live g).0 here ∙ zero))))
      ]

  after : (c : ℕ) → c < length x.cores → c < s.cores
  after c lt = omega (arith, lt, after-count s frames entries env connects line x b)

  begins : OpeningsBegin → Begins (play no_name) (feed_view x.card x.replay) x.cores line
  begins opening =
      opening wire.terms (play no_name) (feed_view x.card x.replay) x.cores line (subst (IsWire wire.terms) (sym (ap (λ (r : ReplayView). r.entries) b.replay)) wire.is)
      wire.cores wire.live range.some range.live (ap (λ (r : ReplayView). r.lines) b.replay) (sym (ap (λ (r : ReplayView). r.frames) b.replay))
      (seats-are x.card.table s.live (count_by is_move entries) (after-table s frames entries env connects line x b)) (after-count s frames entries env connects line x b)
      (λ c d lt. after-batch s frames entries env connects line x b c d (after c lt))
      (λ c d lt. after-desks s frames entries env connects line x b c d (after c lt)
      ∙ ap (λ (k : StackCore). k.desks) (get_or_default b.dialed c d b.dials.first (omega (arith, after c lt, dialed-count s frames entries env connects line x b))))
      (λ c lt. dialed-desks s frames entries env connects line x b c b.dials.first lt) homes

  -- ## The first settle
  goes : (opening : OpeningsBegin) → OpeningsAreReady Stack (Env Application) → MeetingsAreReady Stack (Env Application) → OpeningsAreHome Stack (Env Application) Drains stack_weight owners_at
      → SettlesAreWhole Stack (Env Application) Drains stack_weight owners_at → OwnersAreTold → IsInCourse s (play no_name) x (begins opening).first []
  goes opening openings meetings home wholes owners = record {
    at = at;
    home = in_place;
    slots = slots;
    numbers = λ c d lt. after-home s frames entries env connects line x b c d (after c lt);
    tells = (
      owners (play no_name) s.buffers (begins opening).first b.settled.settled.report b.settled.card x.card b.settled.cores x.cores range.buffers slots in_place b.settled.settled.settles
          (subst (λ (l : SettleLine). LineTells l b.settled.settled.report) (sym (begins opening).line_is) tells) has,
      tt,
    );
    kept = tt;
    whole = ap (λ (l : SettleLine). list_all (is_whole s.cores s.buffers) (l ∷ [])) (begins opening).line_is
        ∙ ap (λ (t : Bool). t && true) (ap (λ (n : ℕ). is_whole n s.buffers line) (sym (met-count s frames entries env connects line x b))
        ∙ wholes s.buffers line b.settled.settled.report b.settled.card x.card b.settled.cores x.cores range.buffers slots in_place b.settled.settled.settles tells);
    own = subst (AllByRecursion (HasOwnBuffer s.buffers)) (sym (at.done ∙ ap (λ (r : ReplayView). r.lines) b.replay)) tt;
  } where
    at : IsAt (play no_name) (feed_view x.card x.replay) x.cores (begins opening).first []
    at = (begins opening).at

    in_place : IsHome Drains stack_weight x.card x.cores
    in_place = is-home s frames entries env connects line x b some openings meetings home

    slots : (c : ℕ) (d : StackCore) → c < length x.cores → (get_or x.cores c d).pool.n ≡ s.buffers
    slots c d lt = after-slots s frames entries env connects line x b c d (after c lt)

    tells : LineTells line b.settled.settled.report
    tells = line-tells line b.settled.card x.card b.settled.cores x.cores b.settled.settled

    has : HasDesks s.cores (begins opening).first.desks x.cores
    has = record { count = at.count; each = λ c d lt. at.desks c d (omega (arith, lt, after-count s frames entries env connects line x b)) }

pub plays-begin : StandAtFirst → DialsAreAsked → OpeningsBegin → OpeningsAreReady Stack (Env Application) → MeetingsAreReady Stack (Env Application)
    → OpeningsAreHome Stack (Env Application) Drains stack_weight owners_at → SettlesAreWhole Stack (Env Application) Drains stack_weight owners_at → OwnersAreTold → PlaysBegin
plays-begin first asked opening openings meetings home wholes owners s frames entries env connects line x range is_env wire b = record {
  unit = unit_at s frames entries env connects line x range is_env wire b first asked;
  desks = desks_of s frames entries env connects line x range is_env wire b first asked;
  opened = is-opened s frames entries env connects line x range is_env wire b first asked;
  answers = answers s frames entries env connects line x range is_env wire b first asked;
  card = is-opening s frames entries env connects line x b;
  name = no_name;
  first = (begins s frames entries env connects line x range is_env wire b first asked opening).first;
  line_is = (begins s frames entries env connects line x range is_env wire b first asked opening).line_is;
  goes = goes s frames entries env connects line x range is_env wire b first asked opening openings meetings home wholes owners;
}
