-- The numbers of each home at a settle.
use Rattle.std.proofs.Common.{◌≡◌, ℕ, ◌+◌, ◌<◌, ◌≤◌, cond, List, [], ◌∷◌, ◌++◌, length, refl, sym, ap, ◌∙◌, arith, append-nil}
use Rattle.std.specs.Prelude.{◌==◌, if◌then◌else◌, Option, Some, None, count_by, is_some, sum_by}
use Rattle.std.specs.List.{range_with_len}
use Rattle.std.proofs.lemmas.List.Sums.{sum_by-cons}
use Rattle.ix_base.specs.declared.id.CoreId.{CoreId}
use Rattle.ix_base.specs.declared.id.Owned.{Owned}
use Rattle.ix_base.specs.declared.id.TheConstants.{FLOW_GROUPS}
use Rattle.ix_base.specs.declared.id.WireNo.{WireNo}
use Rattle.ix_mbuf.specs.Owners.{one_at}
use Rattle.ix_mbuf.specs.declared.name.Name.{Name}
use Rattle.ix_desk.specs.Desks.{group_at}
use Rattle.ix_desk.specs.Groups.{current_unit, current_waits, cut_unit, cut_waits, early_waits, empty, unit_of, waits}
use Rattle.ix_desk.specs.Pieces.{piece_waits, ready}
use Rattle.ix_desk.specs.Views.{Arrival, CutPiece, Group, Piece}
use Rattle.ix_stack.specs.Works.{work_weight, works_weight}
use Rattle.ix_stack.specs.declared.work.Taken.{Taken}
use Rattle.ix_stack.specs.declared.work.Work.{Work}
use Rattle.ix_stack.specs.declared.work.Work.TheVariants as works
use Rattle.ix_groupdef.specs.Env.{setting_of}
use Rattle.ix_groupdef.specs.Group.{Cycle, run}
use Rattle.ix_groupdef.specs.Group as groups
use Rattle.ix_groupdef.specs.Owners.{owners_of, sends_parts}
use Rattle.ix_lines.specs.declared.types.EntryLine.{EntryLine}
use Rattle.ix_core.specs.Counting.{none_owned, owned_at, owned_by}
use Rattle.ix_fits.specs.Owners.{Play, all_groups, desk_at, home_of, is_at, owners_in, waiting}
use Rattle.ix_plainstack.specs.Kept.{frames_weight}
use Rattle.ix_plainstack.specs.Stack.{Stack, owners_at}
use Rattle.ix_plainstack.specs.Standing.{AreNamed, OwnersAreRight, numbers_of}
use Rattle.ix_settled.specs.Cuts.{StandsAt, cycles_at, frames_among, play_of}
use Rattle.ix_settled.specs.Moments.{Moment, Opening}
use Rattle.ix_settled.specs.Renamed.{AgreesWith}
use Rattle.ix_owned.specs.Owned.{HomesAre, frames_at, over_cores}
use Rattle.ix_owned.proofs.Sums.{sum-joined, sum-places, sum-range, total, total-less, total-one, total-same, total-swap}

-- ## Groups of which nothing is there, and groups at one piece
pub record IsBlank (x : Group Stack Work) : Type 0 where
  pub cut : x.cut ≡ []
  pub current : x.current ≡ None
  pub early : x.early ≡ []

pub record HasPiece (x : Group Stack Work) (q : Piece Stack Work) : Type 0 where
  pub cut : x.cut ≡ []
  pub current : x.current ≡ Some q
  pub early : x.early ≡ []

pub waits-blank : (x : Group Stack Work) → IsBlank x → waits x ≡ []
waits-blank x b =
    ap (λ (cs : List (CutPiece Stack Work)). cut_waits cs ++ (current_waits x.current ++ early_waits x.early)) b.cut
    ∙ ap (λ (o : Option (Piece Stack Work)). current_waits o ++ early_waits x.early) b.current ∙ ap (λ (es : List (Arrival Stack Work)). early_waits es) b.early

pub waits-one : (x : Group Stack Work) (q : Piece Stack Work) → HasPiece x q → waits x ≡ piece_waits q
waits-one x q h =
    ap (λ (cs : List (CutPiece Stack Work)). cut_waits cs ++ (current_waits x.current ++ early_waits x.early)) h.cut
    ∙ ap (λ (o : Option (Piece Stack Work)). current_waits o ++ early_waits x.early) h.current ∙ ap (λ (es : List (Arrival Stack Work)). piece_waits q ++ early_waits es) h.early ∙ append-nil (piece_waits q)

unit-blank : (x : Group Stack Work) → IsBlank x → unit_of x ≡ None
unit-blank x b =
    ap (λ (cs : List (CutPiece Stack Work)). if is_some (cut_unit cs) then cut_unit cs else current_unit x.current) b.cut ∙ ap (λ (o : Option (Piece Stack Work)). current_unit o) b.current

unit-one : (x : Group Stack Work) (q : Piece Stack Work) → HasPiece x q → unit_of x ≡ q.unit
unit-one x q h =
    ap (λ (cs : List (CutPiece Stack Work)). if is_some (cut_unit cs) then cut_unit cs else current_unit x.current) h.cut ∙ ap (λ (o : Option (Piece Stack Work)). current_unit o) h.current

-- where nothing is to be stepped, what waits stands behind the tag
nothing-ready : {X : Type 0} (xs ys zs : List X) → xs ++ ys ≡ [] → xs ++ (ys ++ zs) ≡ zs
nothing-ready [] [] zs e = refl
nothing-ready [] (y ∷ ys) zs e = absurd (cc)
nothing-ready (x ∷ xs) ys zs e = absurd (cc)

pub waits-behind : (q : Piece Stack Work) → ready q ≡ [] → piece_waits q ≡ q.behind
waits-behind q e = nothing-ready q.remote q.local q.behind e

-- ## Weights by numbers
works-frames : (f : Name → ℕ) (items : List Work) → works_weight f items ≡ frames_weight f (frames_among items)
works-frames f [] = refl
works-frames f (works.Frame t ∷ items) =
    sum_by-cons (work_weight f) (works.Frame t) items ∙ ap (λ n. f t.buf.name + n) (works-frames f items) ∙ sym (sum_by-cons (λ (u : Taken). f u.buf.name) t (frames_among items))
works-frames f (works.Time w now ∷ items) =
    let none : 0 + works_weight f items ≡ works_weight f items = omega arith in
    sum_by-cons (work_weight f) (works.Time w now) items ∙ none ∙ works-frames f items

pub frames-numbers : (f : Name → ℕ) (name : WireNo → Name) (ts : List Taken) → AreNamed name ts → frames_weight f ts ≡ sum_by (λ w. f (name w)) (numbers_of ts)
frames-numbers f name [] named = refl
frames-numbers f name (t ∷ ts) named =
    sum_by-cons (λ (u : Taken). f u.buf.name) t ts
    ∙ ap (λ n. f t.buf.name + n) (frames-numbers f name ts named.1) ∙ ap (λ (n : Name). f n + sum_by (λ w. f (name w)) (numbers_of ts)) named.0
    ∙ sym (sum_by-cons (λ w. f (name w)) t.w (numbers_of ts))

pub groups-range : (k : ℕ) → k ≡ FLOW_GROUPS → all_groups ≡ range_with_len 0 k
unfolding all_groups
groups-range k e = ap (range_with_len 0) (sym e)

module _ (p : Opening) (entries : List EntryLine) (cycles : ℕ → List Cycle) (m : Moment) (sizes : (c : ℕ) → c < p.cores → length (m.desks c).groups ≡ FLOW_GROUPS)
    (agrees : AgreesWith entries p.name) (stand : (g : ℕ) → g < FLOW_GROUPS → StandsAt p (cycles g) g m) where
  abbrev pub play : Play
  play = play_of p entries cycles

  pub piece-at : (g : ℕ) (lt : g < FLOW_GROUPS) → HasPiece (group_at (m.desks (stand g lt).core) g) (stand g lt).piece
  piece-at g lt = let s = stand g lt in record { cut = s.no_cut s.core s.within; current = s.is; early = s.no_early s.core s.within }

  blank-at : (g c : ℕ) (lt : g < FLOW_GROUPS) → c < p.cores → (c ≡ (stand g lt).core → ⊥) → IsBlank (group_at (m.desks c) g)
  blank-at g c lt within other = let s = stand g lt in record { cut = s.no_cut c within; current = s.no_current c within other; early = s.no_early c within }

  -- What is summed over the groups of all cores is summed over the groups, each on its core.
  groups-places : (k : ℕ) → k ≡ FLOW_GROUPS → (f : Group Stack Work → ℕ) → over_cores p m (λ v. sum_by f v.groups) ≡ total (λ g. total (λ c. f (group_at (m.desks c) g)) 0 p.cores) 0 k
  groups-places k e f =
      sum-range (λ c. sum_by f (m.desks c).groups) 0 p.cores
      ∙ total-same (λ c. sum_by f (m.desks c).groups) (λ c. total (λ g. f (group_at (m.desks c) g)) 0 k) 0 p.cores
      (λ c low high. sum-places f (m.desks c).groups empty (λ g. f (group_at (m.desks c) g)) 0 (λ i lt. (let first : 0 + i ≡ i = omega arith in ap (λ g. f (group_at (m.desks c) g)) first))
      ∙ ap (λ n. total (λ g. f (group_at (m.desks c) g)) 0 n) (sizes c (omega (arith, high)) ∙ sym e))
      ∙ total-swap (λ c g. f (group_at (m.desks c) g)) 0 p.cores 0 k

  one-place : (f : Group Stack Work → ℕ) → ((x : Group Stack Work) → IsBlank x → f x ≡ 0) → (g : ℕ) (lt : g < FLOW_GROUPS) → total (λ c. f (group_at (m.desks c) g)) 0 p.cores ≡ f (group_at (m.desks (stand g lt).core) g)
  one-place f blank g lt =
      let s = stand g lt in
      total-one (λ c. f (group_at (m.desks c) g)) 0 p.cores s.core (omega arith) (let within = s.within in omega (arith, within))
      (λ c low high other. blank (group_at (m.desks c) g) (blank-at g c lt (omega (arith, high)) other))

  pub groups-sum : (k : ℕ) → k ≡ FLOW_GROUPS → (f : Group Stack Work → ℕ) → ((x : Group Stack Work) → IsBlank x → f x ≡ 0) → (value : ℕ → ℕ)
      → ((g : ℕ) (lt : g < FLOW_GROUPS) → f (group_at (m.desks (stand g lt).core) g) ≡ value g) → over_cores p m (λ v. sum_by f v.groups) ≡ sum_by value all_groups
  groups-sum k e f blank value is =
      groups-places k e f
      ∙ total-same (λ g. total (λ c. f (group_at (m.desks c) g)) 0 p.cores) value 0 k (λ g low high. (let lt : g < FLOW_GROUPS = omega (arith, high, e) in one-place f blank g lt ∙ is g lt))
      ∙ sym (ap (sum_by value) (groups-range k e) ∙ sum-range value 0 k)

  pub groups-bound : (k : ℕ) → k ≡ FLOW_GROUPS → (f : Group Stack Work → ℕ) → ((x : Group Stack Work) → IsBlank x → f x ≡ 0) → (value : ℕ → ℕ)
      → ((g : ℕ) (lt : g < FLOW_GROUPS) → value g ≤ f (group_at (m.desks (stand g lt).core) g)) → sum_by value all_groups ≤ over_cores p m (λ v. sum_by f v.groups)
  groups-bound k e f blank value less =
      let all = ap (sum_by value) (groups-range k e) ∙ sum-range value 0 k in
      let places = groups-places k e f in
      let bound = total-less value (λ g. total (λ c. f (group_at (m.desks c) g)) 0 p.cores) 0 k
      (λ g low high. (let lt : g < FLOW_GROUPS = omega (arith, high, e) in let one = one-place f blank g lt in let here = less g lt in omega (arith, one, here))) in
      omega (arith, all, places, bound)

  -- ## Frames that wait
  pub waits-weigh : (f : Name → ℕ) (g : ℕ) (lt : g < FLOW_GROUPS) → works_weight f (waits (group_at (m.desks (stand g lt).core) g)) ≡ sum_by (λ w. f (p.name w)) (waiting m.done g)
  waits-weigh f g lt =
      let s = stand g lt in
      ap (works_weight f) (waits-one (group_at (m.desks s.core) g) s.piece (piece-at g lt) ∙ waits-behind s.piece s.ready)
      ∙ works-frames f s.piece.behind ∙ frames-numbers f p.name (frames_among s.piece.behind) s.named ∙ ap (sum_by (λ w. f (p.name w))) (sym s.waits)

  home-tests : (home : ℕ) → ◌≡◌ {A = WireNo → ℕ} (λ w. one_at home (p.name w)) (λ w. cond (is_at entries home w) 1 0)
  home-tests home = λ i w. cond ((agrees.home w i).0 == home) 1 0

  desk-right : (home : ℕ) → over_cores p m (frames_at home) ≡ desk_at play m.done home
  desk-right home =
      ap (over_cores p m) (λ i v. sum-joined (work_weight (one_at home)) waits v.groups i)
      ∙ groups-sum FLOW_GROUPS refl (λ x. works_weight (one_at home) (waits x)) (λ x b. ap (works_weight (one_at home)) (waits-blank x b)) (λ g. count_by (is_at entries home) (waiting m.done g))
      (λ g lt. waits-weigh (one_at home) g lt ∙ ap (λ (f : WireNo → ℕ). sum_by f (waiting m.done g)) (home-tests home))

  -- ## What stacks own
  owners-at : OwnersAreRight → (home g : ℕ) (lt : g < FLOW_GROUPS) → owned_at owners_at home (group_at (m.desks (stand g lt).core) g) ≡ owners_in play m.done home g
  owners-at right home g lt =
      let s = stand g lt in
      ap (owned_by owners_at home) (unit-one (group_at (m.desks s.core) g) s.piece (piece-at g lt) ∙ s.there)
      ∙ right (sends_parts p.env.app) (setting_of p.env) p.name (p.asked g) (cycles_at (cycles g) g m.done) s.unit.owning s.stands home
      ∙ ap (λ (of : WireNo → CoreId). owners_of (sends_parts p.env.app) of (record { 0 = home }) s.unit.owning.group) (λ i w. agrees.home w i)
      ∙ ap (λ (z : groups.Group). owners_of (sends_parts p.env.app) (home_of entries) (record { 0 = home }) z) s.stands.group

  none-owned : (home : ℕ) (x : Group Stack Work) → IsBlank x → owned_at owners_at home x ≡ none_owned
  none-owned home x b = ap (owned_by owners_at home) (unit-blank x b)

  pub homes-are : OwnersAreRight → HomesAre p play m
  homes-are right = record {
    desk = desk-right;
    held = λ home. groups-sum FLOW_GROUPS refl (λ x. (owned_at owners_at home x).held) (λ x b. ap (λ (o : Owned). o.held) (none-owned home x b)) (λ g. (owners_in play m.done home g).held)
        (λ g lt. ap (λ (o : Owned). o.held) (owners-at right home g lt));
    app = λ home. groups-sum FLOW_GROUPS refl (λ x. (owned_at owners_at home x).app) (λ x b. ap (λ (o : Owned). o.app) (none-owned home x b)) (λ g. (owners_in play m.done home g).app)
        (λ g lt. ap (λ (o : Owned). o.app) (owners-at right home g lt));
    queue = λ home. groups-sum FLOW_GROUPS refl (λ x. (owned_at owners_at home x).queue) (λ x b. ap (λ (o : Owned). o.queue) (none-owned home x b)) (λ g. (owners_in play m.done home g).queue)
        (λ g lt. ap (λ (o : Owned). o.queue) (owners-at right home g lt));
  }
