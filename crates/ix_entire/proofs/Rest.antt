-- What is at the desks behind a whole run: each flow group's unit is on one core, and no item waits. So the cores can be closed.
use Rattle.std.proofs.Common.{◌≡◌, ◌<◌, ◌≤◌, ℕ, suc, List, [], ◌∷◌, ◌++◌, length, get_or, fold, map, false, refl, ap, sym, subst, ◌∙◌, arith, append_assoc, inl, inr}
use Rattle.std.specs.Prelude.{Option, Some, None}
use Rattle.std.proofs.lemmas.Bool.{cases_eq}
use Rattle.std.proofs.lemmas.List.{get_or_default}
use Rattle.ix_base.specs.declared.id.TheConstants.{FLOW_GROUPS}
use Rattle.ix_appdef.specs.declared.application.Application.{Application}
use Rattle.ix_groupdef.specs.declared.env.Env.{Env}
use Rattle.ix_desk.specs.Desks.{group_at, groups_wait}
use Rattle.ix_desk.specs.Groups.{current_waits, cut_waits, early_waits, empty, waits}
use Rattle.ix_desk.specs.Pieces.{ready}
use Rattle.ix_desk.specs.Views.{Arrival, CutPiece, Group, Piece, View}
use Rattle.ix_stack.specs.declared.work.Work.{Work}
use Rattle.ix_nic.specs.Cards.{CardView}
use Rattle.ix_core.specs.Closing.{CanClose}
use Rattle.ix_order.specs.Pieces.{core_in}
use Rattle.ix_order.specs.Steppers.{tagged_by}
use Rattle.ix_order.specs.Wire.{Entry, Table, moves}
use Rattle.ix_history.specs.Join.{Joined, NowhereElse}
use Rattle.ix_history.specs.Items.{taken_in}
use Rattle.ix_history.specs.Laws.{JoinLaw}
use Rattle.ix_fits.specs.Card.{entry_of, opening_table}
use Rattle.ix_fits.specs.Stepping.{StepsAsNamed, SteppingLaw}
use Rattle.ix_plainstack.specs.Batches.{is_frame_work, work_number}
use Rattle.ix_plainstack.specs.Stack.{Stack, Advances, Drains, stack_weight}
use Rattle.ix_epochs.specs.Ready.{IsReadyToSettle, MeetingsAreReady}
use Rattle.ix_homes.specs.Homes.{IsHome}
use Rattle.ix_settled.specs.Moments.{AtSettle, IsOpened, Moment, Opening, Settled, stack_steps}
use Rattle.ix_engine.specs.Openings.{StackCore}
use Rattle.ix_engine.specs.Steps.{Engine, HaveMet}
use Rattle.ix_entire.proofs.Lists.{an-element, joined-none}

abbrev pub Joins : Type 0
Joins = JoinLaw is_frame_work work_number stack_steps Advances Drains

abbrev pub Names : Type 0
Names = SteppingLaw is_frame_work work_number stack_steps Advances Drains

pub last-settle : (p : Opening) (m : Moment) (ms : List Moment) → Settled p (m ∷ ms) → AtSettle p m
last-settle p m [] so = so.settle
last-settle p m (before ∷ ms) so = so.0

-- ## One group
abbrev behind-of : Option (Piece Stack Work) → List Work
behind-of None = []
behind-of (Some p) = p.behind

waits-none : (x : Group Stack Work) → x.cut ≡ [] → x.early ≡ [] → current_waits x.current ≡ [] → waits x ≡ []
waits-none x cut early none =
    ap (λ (cs : List (CutPiece Stack Work)). cut_waits cs ++ (current_waits x.current ++ early_waits x.early)) cut
    ∙ ap (λ (ws : List Work). ws ++ early_waits x.early) none
    ∙ ap (λ (came : List (Arrival Stack Work)). early_waits came) early

piece-waits-none : (p : Piece Stack Work) → ready p ≡ [] → p.behind ≡ [] → p.remote ++ (p.local ++ p.behind) ≡ []
piece-waits-none p none last = sym (append_assoc p.remote p.local p.behind) ∙ ap (λ (ws : List Work). ws ++ p.behind) none ∙ last

module _ (join : Joins) (naming : Names) (p : Opening) (m : Moment) (opened : IsOpened p) (at : AtSettle p m)
    (closed : (g : ℕ) → g < FLOW_GROUPS → fold (tagged_by g) false (map entry_of m.done) ≡ false) where
  abbrev es : List Entry
  es = map entry_of m.done

  abbrev t : Table
  t = opening_table p.live

  abbrev Is : ℕ → Type 0
  Is g = Joined is_frame_work work_number stack_steps Advances Drains p.env p.cores g t es (p.unit g) m.desks (λ c. taken_in (m.history c))
      × NowhereElse is_frame_work work_number stack_steps Advances Drains p.env p.cores g t es m.desks

  is-joined : (g : ℕ) → g < FLOW_GROUPS → Is g
  is-joined g lt = join p.env p.cores g t es p.unit p.desks m.desks m.history at.played lt

  is-stepped : (g : ℕ) → g < FLOW_GROUPS → StepsAsNamed is_frame_work work_number stack_steps Advances Drains g t es m.desks
  is-stepped g lt = naming p.env p.cores g t es p.unit p.desks m.desks m.history at.played lt (at.alternate g lt) (opened.steps g lt)

  current-none : (g : ℕ) → g < FLOW_GROUPS → current_waits (group_at (m.desks (core_in g (moves g es) t es)) g).current ≡ []
  current-none g lt =
      let j = (is-joined g lt).0 in
      let s = is-stepped g lt in
      let last : j.piece.behind ≡ [] = ap behind-of (sym j.is ∙ s.is) ∙ s.waits (closed g lt) in
      ap (λ (o : Option (Piece Stack Work)). current_waits o) j.is ∙ piece-waits-none j.piece j.ready last

  pub group-waits-none : (g c : ℕ) → g < FLOW_GROUPS → c < p.cores → waits (group_at (m.desks c) g) ≡ []
  group-waits-none g c lt low =
      let n = (is-joined g lt).1 in
      waits-none (group_at (m.desks c) g) (n.no_cut c low) (n.no_early c low)
      (elim (cases_eq c (core_in g (moves g es) t es)) [
        | inl is ↦ subst (λ (k : ℕ). current_waits (group_at (m.desks k) g).current ≡ []) (sym is) (current-none g lt)
        | inr other ↦ ap (λ (o : Option (Piece Stack Work)). current_waits o) (n.no_current c low other)
      ])

  pub desks-wait-none : (n : ℕ) → n ≡ FLOW_GROUPS → (c : ℕ) → c < p.cores → length (m.desks c).groups ≡ n → groups_wait (m.desks c) ≡ []
  desks-wait-none n is c low size = joined-none waits (m.desks c).groups empty (λ g lt. group-waits-none g c (omega (arith, is, size, lt)) low)

-- ## All cores
module _ (join : Joins) (naming : Names) (ready_again : MeetingsAreReady Stack (Env Application)) (p : Opening) (m : Moment) (ms : List Moment) (y : Engine) (opened : IsOpened p) (settled : Settled p (m ∷ ms))
    (closed : (g : ℕ) → g < FLOW_GROUPS → fold (tagged_by g) false (map entry_of m.done) ≡ false) (some : 1 ≤ p.cores) (count : length y.cores ≡ p.cores)
    (desks : (c : ℕ) (d : StackCore) → c < length y.cores → (get_or y.cores c d).desks ≡ m.desks c) (home : IsHome Drains stack_weight y.card y.cores) where
  -- no item waits at a desk
  pub none-waits : (c : ℕ) (d : StackCore) → c < length y.cores → groups_wait (get_or y.cores c d).desks ≡ []
  none-waits c d lt =
      let size : length (m.desks c).groups ≡ 512 = ap (λ (v : View Stack Work). length v.groups) (sym (desks c d lt)) ∙ (home.level c d lt).size in
      ap (λ (v : View Stack Work). groups_wait v) (desks c d lt) ∙ desks-wait-none join naming p m opened (last-settle p m ms settled) closed 512 refl c (omega (arith, lt, count)) size

  module _ (card : CardView) (cores : List StackCore) (met : HaveMet y.card card y.cores cores) where
    pub met-ready : IsReadyToSettle card cores
    met-ready = ready_again y.card card y.cores cores (omega (arith, some, count)) home.ready met.card_is met.cores_are met.order met.told

    pub met-desks : (c : ℕ) (d : StackCore) → (get_or cores c d).desks ≡ (get_or y.cores c d).desks
    met-desks c d = ap (λ (x : StackCore). x.desks) (met.cores_are.each c d).rest

    pub can-close : CanClose card cores
    can-close = record {
      order = met.order;
      told = met.told;
      some = omega (arith, some, count, met.cores_are.count);
      few = λ c q lt.
          let low : c < length cores = subst (λ n. c < n) met.order.count lt in
          (met-ready.ready.ports c q (an-element cores c low) low).few;
      no_ships = met-ready.can.no_ships;
      no_items = λ c d lt. ap (λ (v : View Stack Work). groups_wait v) (met-desks c d) ∙ none-waits c d (subst (λ n. c < n) met.cores_are.count lt);
    }
