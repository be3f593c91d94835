-- A unit that isn't awaited is never awaited again: the desks remember the tenures that arrived.
use Rattle.std.proofs.Common.{◌≡◌, ℕ, zero, suc, Bool, true, false, List, [], ◌∷◌, ◌++◌, map, get_or, set, refl, sym, ap, subst, ◌∙◌}
use Rattle.std.specs.Prelude.{◌||◌, ◌&&◌, if◌then◌else◌, not}
use Rattle.ix_mbuf.specs.Buffers.{Buffer}
use Rattle.ix_desk.specs.declared.unit.DeskItem.{DeskItem}
use Rattle.ix_desk.specs.declared.unit.DeskItem.TheVariants as desk
use Rattle.ix_desk.specs.declared.unit.Shipment.{Shipment}
use Rattle.ix_desk.specs.Views.{Group, View}
use Rattle.ix_desk.specs.Tenures.{has_arrived}
use Rattle.ix_desk.specs.Groups.{changed, empty, landed, shipped, taken}
use Rattle.ix_desk.specs.Steps.{EachWorked, GroupWorked, group_leaves}
use Rattle.ix_desk.specs.Desks.{group_at, welcome_at, with_group}
use Rattle.ix_history.specs.Events.{Event, Happened, Parcel, RingItem, arrival_of, at_end, came, for_each, for_group, given, gone, lent, took, worked}
use Rattle.ix_history.specs.Run.{Run}
use Rattle.ix_history.specs.Runs.{Runs}
use Rattle.ix_stack.specs.declared.work.Work.{Work}
use Rattle.ix_core.specs.Landing.{FirstUnawaited}

-- ## Tenures in a list
or_case : (b r s : Bool) → (b || r) ≡ true → (r ≡ true → s ≡ true) → (b || s) ≡ true
or_case true r s e more = refl
or_case false r s e more = more e

still_arrived : (k : ℕ) (xs ys : List ℕ) → has_arrived k xs ≡ true → has_arrived k (xs ++ ys) ≡ true
still_arrived k [] ys e = absurd (cc)
still_arrived k (x ∷ xs) ys e = or_case _ (has_arrived k xs) (has_arrived k (xs ++ ys)) e (still_arrived k xs ys)

welcome_case : (a b h h' : Bool) → (a && (b && not h)) ≡ false → (h ≡ true → h' ≡ true) → (a && (b && not h')) ≡ false
welcome_case false b h h' e more = refl
welcome_case true false h h' e more = refl
welcome_case true true true h' e more = ap not (more refl)
welcome_case true true false h' e more = absurd (cc)

module _ {U : Type 0} where
  -- what arrived is remembered
  abbrev Remembered : List (Group U Work) → List (Group U Work) → Type 0
  Remembered xs ys = (g k : ℕ) → has_arrived k (get_or xs g empty).arrived ≡ true → has_arrived k (get_or ys g empty).arrived ≡ true

  record Remembers (x y : View U Work) : Type 0 where
    core : y.core ≡ x.core
    arrived : Remembered x.groups y.groups

  same_groups : (x y : View U Work) → y ≡ x → Remembers x y
  same_groups x y e = record { core = ap (λ (v : View U Work). v.core) e; arrived = λ g k a. subst (λ (v : View U Work). has_arrived k (get_or v.groups g empty).arrived ≡ true) (sym e) a }

  remembers_join : (x y z : View U Work) → Remembers x y → Remembers y z → Remembers x z
  remembers_join x y z p q = record { core = q.core ∙ p.core; arrived = λ g k a. q.arrived g k (p.arrived g k a) }

  set_remembers : (gs : List (Group U Work)) (g : ℕ) (new : Group U Work) → ((k : ℕ) → has_arrived k (get_or gs g empty).arrived ≡ true → has_arrived k new.arrived ≡ true) → Remembered gs (set gs g new)
  set_remembers [] g new more h k e = e
  set_remembers (x ∷ xs) zero new more zero k e = more k e
  set_remembers (x ∷ xs) zero new more (suc h) k e = e
  set_remembers (x ∷ xs) (suc g) new more zero k e = e
  set_remembers (x ∷ xs) (suc g) new more (suc h) k e = set_remembers xs g new more h k e

  one_remembers : (x y : View U Work) (g : ℕ) (new : Group U Work) → y ≡ with_group x g new
      → ((k : ℕ) → has_arrived k (group_at x g).arrived ≡ true → has_arrived k new.arrived ≡ true) → Remembers x y
  one_remembers x y g new e more = record {
    core = ap (λ (v : View U Work). v.core) e;
    arrived = λ h k a. subst (λ (v : View U Work). has_arrived k (get_or v.groups h empty).arrived ≡ true) (sym e) (set_remembers x.groups g new more h k a);
  }

  as_arrived : (k : ℕ) (g h : Group U Work) → h.arrived ≡ g.arrived → has_arrived k g.arrived ≡ true → has_arrived k h.arrived ≡ true
  as_arrived k g h e a = subst (λ (ks : List ℕ). has_arrived k ks ≡ true) (sym e) a

  map_remembers : (f : Group U Work → Group U Work) → ((g : Group U Work) → (f g).arrived ≡ g.arrived) → (gs : List (Group U Work)) → Remembered gs (map f gs)
  map_remembers f same [] h k e = e
  map_remembers f same (x ∷ xs) zero k e = as_arrived k x (f x) (same x) e
  map_remembers f same (x ∷ xs) (suc h) k e = map_remembers f same xs h k e

  -- ## What events make of the tenures that arrived
  taken_arrived : (g : Group U Work) (it : DeskItem Work) → (taken g it).arrived ≡ g.arrived
  taken_arrived g (desk.Work x) = refl
  taken_arrived g desk.Tag = refl
  taken_arrived g (desk.Cut to) = refl
  taken_arrived g (desk.Start k) = refl

  given_case : (b : Bool) (g : Group U Work) (x : Work) → (if b then taken g (desk.Work x) else g).arrived ≡ g.arrived
  given_case true g x = refl
  given_case false g x = refl

  changed_arrived : (g : Group U Work) (u : U) → (changed g u).arrived ≡ g.arrived
  unfolding changed
  changed_arrived g u = refl

module _ {U E : Type 0} (counted : Work → Bool) (name : Work → ℕ) (stepped : U → List (ℕ × ℕ)) (advanced : U → E → ℕ → List Work → U → Type 0) (drained : U → List Buffer → U → Type 0) (env : E) where
  worked_remembers : (here b : ℕ) (xs ys : List (Group U Work)) → EachWorked (group_leaves counted) (GroupWorked counted name stepped advanced env here) b xs ys → Remembered xs ys
  worked_remembers here b [] [] w h k e = e
  worked_remembers here b (x ∷ xs) (y ∷ ys) w zero k e = as_arrived k x y (w.0).arrived e
  worked_remembers here b (x ∷ xs) (y ∷ ys) w (suc h) k e = worked_remembers here (group_leaves counted b x) xs ys w.1 h k e
  worked_remembers here b [] (y ∷ ys) w h k e = absurd w
  worked_remembers here b (x ∷ xs) [] w h k e = absurd w

  event_remembers : (e : Event U Work (List Buffer)) (x y : View U Work) → Happened counted name stepped advanced drained env x e y → Remembers x y
  event_remembers (took (for_group g it)) x y h = one_remembers x y g (taken (group_at x g) it) h.1 (λ k a. as_arrived k (group_at x g) (taken (group_at x g) it) (taken_arrived (group_at x g) it) a)
  event_remembers (took (for_each w)) x y h = record {
    core = ap (λ (v : View U Work). v.core) h;
    arrived = λ g k a. subst (λ (v : View U Work). has_arrived k (get_or v.groups g empty).arrived ≡ true) (sym h) (map_remembers (given w) (λ z. given_case _ z w) x.groups g k a);
  }
  event_remembers (took at_end) x y h = same_groups x y h
  event_remembers (came c s) x y h = one_remembers x y s.group (landed (group_at x s.group) (arrival_of s)) h.1 (λ k a. still_arrived k (group_at x s.group).arrived (s.tenure ∷ []) a)
  event_remembers (worked most) x y h = record { core = h.core; arrived = worked_remembers x.core most x.groups y.groups h.groups }
  event_remembers (gone s) x y h = one_remembers x y s.group (shipped (group_at x s.group)) h.over (λ k a. a)
  event_remembers (lent g u bufs v) x y h = one_remembers x y g (changed (group_at x g) v) h.2 (λ k a. as_arrived k (group_at x g) (changed (group_at x g) v) (changed_arrived (group_at x g) v) a)

  runs_remember : (es : List (Event U Work (List Buffer))) (x y : View U Work) → Runs (Happened counted name stepped advanced drained env) x es y → Remembers x y
  runs_remember [] x y p = same_groups x y p
  runs_remember (e ∷ es) x y p = remembers_join x p.0 y (event_remembers e x p.0 p.1) (runs_remember es p.0 y p.2)

  unwelcome : (x y : View U Work) (g k to : ℕ) → Remembers x y → welcome_at x g k to ≡ false → welcome_at y g k to ≡ false
  unwelcome x y g k to m e = rw m.core (welcome_case _ _ (has_arrived k (group_at x g).arrived) (has_arrived k (group_at y g).arrived) e (m.arrived g k))

  -- what isn't awaited isn't awaited after a history either
  pub run_unawaited : (x y : View U Work) (items : List (RingItem Work)) (ins : List (ℕ × Parcel U Work)) (frees : List (List Buffer)) (outs : List (Parcel U Work)) (ships : List (Shipment U Work E))
      → Run counted name stepped advanced drained env x y items ins frees outs → FirstUnawaited x ships → FirstUnawaited y ships
  run_unawaited x y items ins frees outs [] r e = tt
  run_unawaited x y items ins frees outs (s ∷ ss) r e = unwelcome x y s.group.0 s.tenure s.to.0 (runs_remember r.events x y r.runs) e
