-- What a history makes of the weights.
use Rattle.std.proofs.Common.{◌≡◌, ◌<◌, ◌+◌, ℕ, zero, suc, Bool, true, false, List, [], ◌∷◌, Option, Some, None, map, length, get_or, sum_by, nat_lt, refl, sym, ap, subst, ◌∙◌, arith}
use Rattle.std.specs.Prelude.{if◌then◌else◌, ◌&&◌, is_some}
use Rattle.std.proofs.lemmas.Bool.Decides.{nat_tests}
use Rattle.std.proofs.lemmas.List.Sums.{sum_by-cons, sum_by-append, sum_by-set}
use Rattle.std.proofs.lemmas.List.{length-set}
use Rattle.ix_mbuf.specs.declared.name.Name.{Name}
use Rattle.ix_mbuf.specs.Owners.{maybe}
use Rattle.ix_mbuf.specs.Buffers.{Buffer, buffers_weight}
use Rattle.ix_desk.specs.declared.unit.DeskItem.{DeskItem}
use Rattle.ix_desk.specs.Views.{Piece, CutPiece, Group, View}
use Rattle.ix_desk.specs.Pieces.{is_done, ready}
use Rattle.ix_desk.specs.Groups.{taken, landed, unit_of, changed, shipped, empty, cut_unit, current_unit, cut_with, cut_piece_with, current_with, done_of, cut_but_done}
use Rattle.ix_desk.specs.Desks.{group_at, with_group, fits_at, welcome_at, Ships}
use Rattle.ix_desk.specs.Steps.{EachWorked, batch, cut_leaves, group_leaves, UnitStepped, PieceWorked, CutWorked, CurrentWorked, GroupWorked, AllWorked}
use Rattle.ix_stack.specs.declared.work.Work.{Work}
use Rattle.ix_stack.specs.Works.{work_weight, works_weight}
use Rattle.ix_stack.specs.declared.item.Item.{Item}
use Rattle.ix_stack.specs.declared.item.Item.TheVariants as ring
use Rattle.ix_stack.specs.Items.{item_weight, items_weight}
use Rattle.ix_history.specs.Events.{Event, Happened, Parcel, RingItem, arrival_of, at_end, came, for_each, for_group, gone, lent, took, worked}
use Rattle.ix_history.specs.Items.{handed_out, taken_in}
use Rattle.ix_history.specs.Run.{Run, landed_in, shipped_in}
use Rattle.ix_history.specs.Runs.{Runs}
use Rattle.ix_core.specs.Items.{ring_item}
use Rattle.ix_core.specs.Links.{all_of}
use Rattle.ix_core.specs.Weights.{piece_weight, cut_weight, arrival_weight, group_weight, desks_weight, parcel_weight, parcels_weight}
use Rattle.ix_core.proofs.Weights.{taken-weighs, timed-weighs, landed-weighs, and-first, and-second, nil-weighs, desk_weight}

each-weighs : {X : Type 0} (h : X → ℕ) (leaves : ℕ → X → ℕ) (Worked : ℕ → X → X → Type 0) → ((b : ℕ) (x y : X) → Worked b x y → h y ≡ h x)
    → (b : ℕ) (xs ys : List X) → EachWorked leaves Worked b xs ys → (sum_by h ys ≡ sum_by h xs) × (length ys ≡ length xs)
each-weighs h leaves Worked one b [] [] e = (refl, refl)
each-weighs h leaves Worked one b (x ∷ xs) (y ∷ ys) e =
    let rest = each-weighs h leaves Worked one (leaves b x) xs ys e.1 in
    (omega (arith, rest.0, one b x y e.0, sum_by-cons h x xs, sum_by-cons h y ys), ap suc rest.1)
each-weighs h leaves Worked one b [] (y ∷ ys) e = absurd e
each-weighs h leaves Worked one b (x ∷ xs) [] e = absurd e

module _ {U E : Type 0} (w : U → ℕ) (f : Name → ℕ) (counted : Work → Bool) (name : Work → ℕ) (stepped : U → List (ℕ × ℕ)) (advanced : U → E → ℕ → List Work → U → Type 0) (env : E) (here : ℕ)
    (law : (x : U) (items : List Work) (y : U) → advanced x env here items y → w y ≡ w x + works_weight f items) where
  stepped-weighs : (items : List Work) (x y : Option U) → UnitStepped counted name stepped advanced env here items x y → maybe w y ≡ maybe w x + works_weight f items
  stepped-weighs [] x y e = omega (arith, ap (maybe w) e)
  stepped-weighs (i ∷ is) (Some x) (Some y) e = law x (i ∷ is) y e.1
  stepped-weighs (i ∷ is) None y e = absurd e
  stepped-weighs (i ∷ is) (Some x) None e = absurd e

  piece-weighs : (b : ℕ) (p q : Piece U Work) → PieceWorked counted name stepped advanced env here b p q → piece_weight w f q ≡ piece_weight w f p
  piece-weighs b p q so =
      omega (
        arith,
        stepped-weighs (batch counted b p) p.unit q.unit so.unit,
        ap (works_weight f) so.waited,
        ap (works_weight f) so.behind,
        sum_by-append (work_weight f) p.remote p.local,
        sum_by-append (work_weight f) q.remote q.local,
        sum_by-append (work_weight f) (batch counted b p) (ready q),
      )

  current-weighs : (b : ℕ) (x y : Option (Piece U Work)) → CurrentWorked counted name stepped advanced env here b x y → maybe (piece_weight w f) y ≡ maybe (piece_weight w f) x
  current-weighs b None None e = refl
  current-weighs b (Some p) (Some q) e = piece-weighs b p q e
  current-weighs b None (Some q) e = absurd e
  current-weighs b (Some p) None e = absurd e

  group-weighs : (b : ℕ) (x y : Group U Work) → GroupWorked counted name stepped advanced env here b x y → group_weight w f y ≡ group_weight w f x
  group-weighs b x y so =
      let cut = each-weighs (cut_weight w f) (cut_leaves counted) (CutWorked counted name stepped advanced env here) (λ k c d e. piece-weighs k c.piece d.piece e.piece) b x.cut y.cut so.cut in
      omega (arith, cut.0, current-weighs _ x.current y.current so.current, ap (sum_by (arrival_weight w f)) so.early)

  pub work-weighs : (b : ℕ) (x y : View U Work) → AllWorked counted name stepped advanced env here b x y → (desks_weight w f y ≡ desks_weight w f x) × (length y.groups ≡ length x.groups)
  work-weighs b x y so = each-weighs (group_weight w f) (group_leaves counted) (GroupWorked counted name stepped advanced env here) group-weighs b x.groups y.groups so.groups

module _ {U : Type 0} (w : U → ℕ) (f : Name → ℕ) where
  cut_with-case : (b : Bool) (c : CutPiece U Work) (cs : List (CutPiece U Work)) (u v : U) → (if b then c.piece.unit else cut_unit cs) ≡ Some u
      → (cut_unit cs ≡ Some u → sum_by (cut_weight w f) (cut_with cs v) + w u ≡ sum_by (cut_weight w f) cs + w v)
      → sum_by (cut_weight w f) (if b then cut_piece_with c v ∷ cs else c ∷ cut_with cs v) + w u ≡ sum_by (cut_weight w f) (c ∷ cs) + w v
  cut_with-case true c cs u v e rest = omega (arith, ap (maybe w) e, sum_by-cons (cut_weight w f) (cut_piece_with c v) cs, sum_by-cons (cut_weight w f) c cs)
  cut_with-case false c cs u v e rest = omega (arith, rest e, sum_by-cons (cut_weight w f) c (cut_with cs v), sum_by-cons (cut_weight w f) c cs)

  cut_with-weighs : (cs : List (CutPiece U Work)) (u v : U) → cut_unit cs ≡ Some u → sum_by (cut_weight w f) (cut_with cs v) + w u ≡ sum_by (cut_weight w f) cs + w v
  cut_with-weighs [] u v e = absurd (cc)
  cut_with-weighs (c ∷ cs) u v e = cut_with-case (is_some c.piece.unit) c cs u v e (cut_with-weighs cs u v)

  some-case : (o : Option U) (c : CutPiece U Work) (cs : List (CutPiece U Work)) (v : U) → is_some (if is_some o then o else cut_unit cs) ≡ false → (is_some (cut_unit cs) ≡ false → cut_with cs v ≡ cs)
      → (if is_some o then cut_piece_with c v ∷ cs else c ∷ cut_with cs v) ≡ c ∷ cs
  some-case None c cs v e rest = ap (λ l. c ∷ l) (rest e)
  some-case (Some u) c cs v e rest = absurd (cc)

  cut_with-none : (cs : List (CutPiece U Work)) (v : U) → is_some (cut_unit cs) ≡ false → cut_with cs v ≡ cs
  cut_with-none [] v e = refl
  cut_with-none (c ∷ cs) v e = some-case c.piece.unit c cs v e (cut_with-none cs v)

  current_with-weighs : (o : Option (Piece U Work)) (u v : U) → current_unit o ≡ Some u → maybe (piece_weight w f) (current_with o v) + w u ≡ maybe (piece_weight w f) o + w v
  current_with-weighs None u v e = absurd (cc)
  current_with-weighs (Some p) u v e = omega (arith, ap (maybe w) e)

  changed-case : (b : Bool) (g : Group U Work) (u v : U) → is_some (cut_unit g.cut) ≡ b → (if b then cut_unit g.cut else current_unit g.current) ≡ Some u
      → (sum_by (cut_weight w f) (cut_with g.cut v) + maybe (piece_weight w f) (if b then g.current else current_with g.current v)) + w u ≡ (sum_by (cut_weight w f) g.cut + maybe (piece_weight w f) g.current) + w v
  changed-case true g u v at e = omega (arith, cut_with-weighs g.cut u v e)
  changed-case false g u v at e = omega (arith, ap (sum_by (cut_weight w f)) (cut_with-none g.cut v at), current_with-weighs g.current u v e)

  -- a group whose unit is changed in its place
  pub changed-weighs : (g : Group U Work) (u v : U) → unit_of g ≡ Some u → group_weight w f (changed g v) + w u ≡ group_weight w f g + w v
  unfolding changed
  changed-weighs g u v e = omega (arith, changed-case (is_some (cut_unit g.cut)) g u v refl e)

  done-case : (b : Bool) (c p : CutPiece U Work) (cs : List (CutPiece U Work)) → is_done c.piece ≡ b → (if b then Some c else done_of cs) ≡ Some p
      → (done_of cs ≡ Some p → (sum_by (cut_weight w f) (cut_but_done cs) + piece_weight w f p.piece ≡ sum_by (cut_weight w f) cs) × (is_done p.piece ≡ true))
      → (sum_by (cut_weight w f) (if b then cs else c ∷ cut_but_done cs) + piece_weight w f p.piece ≡ sum_by (cut_weight w f) (c ∷ cs)) × (is_done p.piece ≡ true)
  done-case true c p cs at e rest =
      let same : c ≡ p = cc in
      (omega (arith, ap (λ (x : CutPiece U Work). piece_weight w f x.piece) same, sum_by-cons (cut_weight w f) c cs), ap (λ (x : CutPiece U Work). is_done x.piece) (sym same) ∙ at)
  done-case false c p cs at e rest =
      let r = rest e in
      (omega (arith, r.0, sum_by-cons (cut_weight w f) c cs, sum_by-cons (cut_weight w f) c (cut_but_done cs)), r.1)

  done-weighs : (cs : List (CutPiece U Work)) (p : CutPiece U Work) → done_of cs ≡ Some p
      → (sum_by (cut_weight w f) (cut_but_done cs) + piece_weight w f p.piece ≡ sum_by (cut_weight w f) cs) × (is_done p.piece ≡ true)
  done-weighs [] p e = absurd (cc)
  done-weighs (c ∷ cs) p e = done-case (is_done c.piece) c p cs refl e (done-weighs cs p)

  pub set-weighs : (v : View U Work) (g : ℕ) (x : Group U Work) → g < length v.groups → desks_weight w f (with_group v g x) + group_weight w f (group_at v g) ≡ desks_weight w f v + group_weight w f x
  set-weighs v g x lt = sum_by-set (group_weight w f) v.groups g x empty lt

  -- a unit that leaves takes its weight along
  pub ships-weighs : (x y : View U Work) (s : Parcel U Work) → length x.groups ≡ 512 → Ships x y s.group s.tenure s.to s.unit s.queue → desks_weight w f y + parcel_weight w f s ≡ desks_weight w f x
  ships-weighs x y s len so =
      let g = group_at x s.group in
      let d = done-weighs g.cut so.piece so.done in
      let p = so.piece.piece in
      omega (
        arith,
        ap (desks_weight w f) so.over,
        set-weighs x s.group (shipped g) (omega (arith, so.within, len)),
        d.0,
        ap (maybe w) so.its_unit,
        ap (works_weight f) so.rest,
        nil-weighs f p.remote (and-first _ _ (and-second _ _ d.1)),
        nil-weighs f p.local (and-second _ _ (and-second _ _ d.1)),
      )

-- a unit that is here is of a group that is there
unit-within : {U : Type 0} (gs : List (Group U Work)) (g : ℕ) (u : U) → unit_of (get_or gs g empty) ≡ Some u → g < length gs
unit-within [] g u e = absurd (cc)
unit-within (x ∷ xs) zero u e = omega arith
unit-within (x ∷ xs) (suc g) u e = let rest = unit-within xs g u e in omega arith

below : (g : ℕ) (b : Bool) → (nat_lt g 512 && b) ≡ true → g < 512
below g b e = let t = and-first (nat_lt g 512) b e in grind (arith, nat_tests)

map-length : {X Y : Type 0} (h : X → Y) (xs : List X) → length (map h xs) ≡ length xs
map-length h [] = refl
map-length h (x ∷ xs) = ap suc (map-length h xs)

-- the flow groups that landed
abbrev pub parcels_in : {U : Type 0} → List (ℕ × Parcel U Work) → List (Parcel U Work)
parcels_in ins = map (λ x. x.1) ins

-- what an item of a ring weighs; a time weighs nothing
abbrev ring_weight : (Name → ℕ) → RingItem Work → ℕ
ring_weight f (for_group g it) = desk_weight f it
ring_weight f (for_each x) = 0
ring_weight f at_end = 0

-- an item for each group has no buffer
abbrev AllLight : (Name → ℕ) → List (RingItem Work) → Type 0
AllLight f [] = Unit {0}
AllLight f (for_group g it ∷ xs) = AllLight f xs
AllLight f (for_each x ∷ xs) = (work_weight f x ≡ 0) × AllLight f xs
AllLight f (at_end ∷ xs) = AllLight f xs

items-light : (f : Name → ℕ) (items : List Item) → AllLight f (map ring_item items)
items-light f [] = tt
items-light f (ring.Frame w g buf ∷ items) = items-light f items
items-light f (ring.Tag g ∷ items) = items-light f items
items-light f (ring.Cut g to ∷ items) = items-light f items
items-light f (ring.Start g k ∷ items) = items-light f items
items-light f (ring.Time w t ∷ items) = (refl, items-light f items)
items-light f (ring.End ∷ items) = items-light f items

item-rings : (f : Name → ℕ) (it : Item) → ring_weight f (ring_item it) ≡ item_weight f it
item-rings f (ring.Frame w g buf) = refl
item-rings f (ring.Tag g) = refl
item-rings f (ring.Cut g to) = refl
item-rings f (ring.Start g k) = refl
item-rings f (ring.Time w t) = refl
item-rings f ring.End = refl

items-ring : (f : Name → ℕ) (items : List Item) → sum_by (ring_weight f) (map ring_item items) ≡ items_weight f items
items-ring f [] = refl
items-ring f (it ∷ items) = omega (arith, items-ring f items, item-rings f it, sum_by-cons (ring_weight f) (ring_item it) (map ring_item items), sum_by-cons (item_weight f) it items)

module _ {U E : Type 0} (w : U → ℕ) (f : Name → ℕ) (counted : Work → Bool) (name : Work → ℕ) (stepped : U → List (ℕ × ℕ)) (advanced : U → E → ℕ → List Work → U → Type 0) (drained : U → List Buffer → U → Type 0) (env : E)
    (steps : (x : U) (core : ℕ) (items : List Work) (y : U) → advanced x env core items y → w y ≡ w x + works_weight f items)
    (drains : (x : U) (bufs : List Buffer) (y : U) → drained x bufs y → w y + buffers_weight f bufs ≡ w x) where
  abbrev Moves : View U Work → View U Work → ℕ → ℕ → Type 0
  Moves x y ins outs = (desks_weight w f y + outs ≡ desks_weight w f x + ins) × (length y.groups ≡ length x.groups)

  took-weighs : (it : DeskItem Work) (x y : View U Work) (g : ℕ) → length x.groups ≡ 512 → fits_at x g it ≡ true → y ≡ with_group x g (taken (group_at x g) it) → Moves x y (desk_weight f it) 0
  took-weighs it x y g len e is = (
    omega (arith, ap (desks_weight w f) is, set-weighs w f x g (taken (group_at x g) it) (omega (arith, below g _ e, len)), taken-weighs w f (group_at x g) it (and-second _ _ e)),
    ap (λ (v : View U Work). length v.groups) is ∙ length-set x.groups g _,
  )

  came-weighs : (s : Parcel U Work) (x y : View U Work) → length x.groups ≡ 512 → welcome_at x s.group s.tenure s.to ≡ true
      → y ≡ with_group x s.group (landed (group_at x s.group) (arrival_of s)) → Moves x y (parcel_weight w f s) 0
  came-weighs s x y len e is = (
    omega (arith, ap (desks_weight w f) is, set-weighs w f x s.group (landed (group_at x s.group) (arrival_of s)) (omega (arith, below s.group _ (and-first _ _ e), len)), landed-weighs w f (group_at x s.group) (arrival_of s)),
    ap (λ (v : View U Work). length v.groups) is ∙ length-set x.groups s.group _,
  )

  lent-weighs : (g : ℕ) (u : U) (bufs : List Buffer) (v : U) (x y : View U Work) → unit_of (group_at x g) ≡ Some u → drained u bufs v → y ≡ with_group x g (changed (group_at x g) v)
      → Moves x y 0 (buffers_weight f bufs)
  lent-weighs g u bufs v x y here so is = (
    omega (arith, ap (desks_weight w f) is, set-weighs w f x g (changed (group_at x g) v) (unit-within x.groups g u here), changed-weighs w f (group_at x g) u v here, drains u bufs v so),
    ap (λ (z : View U Work). length z.groups) is ∙ length-set x.groups g _,
  )

  -- what a history took in and gave out
  runs-weigh : (es : List (Event U Work (List Buffer))) (x y : View U Work) → length x.groups ≡ 512 → AllLight f (taken_in es) → Runs (Happened counted name stepped advanced drained env) x es y
      → Moves x y (sum_by (ring_weight f) (taken_in es) + parcels_weight w f (parcels_in (landed_in es))) (buffers_weight f (all_of (handed_out es)) + parcels_weight w f (shipped_in es))
  runs-weigh [] x y len light p = (omega (arith, ap (desks_weight w f) p), ap (λ (v : View U Work). length v.groups) p)
  runs-weigh (took (for_group g it) ∷ es) x y len light p =
      let one = took-weighs it x p.0 g len p.1.0 p.1.1 in
      let rest = runs-weigh es p.0 y (one.1 ∙ len) light p.2 in
      (omega (arith, one.0, rest.0, sum_by-cons (ring_weight f) (for_group g it) (taken_in es)), rest.1 ∙ one.1)
  runs-weigh (took (for_each a) ∷ es) x y len light p =
      let same : length (p.0).groups ≡ length x.groups = ap (λ (v : View U Work). length v.groups) p.1 ∙ map-length _ x.groups in
      let rest = runs-weigh es p.0 y (same ∙ len) light.1 p.2 in
      (omega (arith, ap (desks_weight w f) p.1, timed-weighs w f a light.0 x.groups, rest.0, sum_by-cons (ring_weight f) (for_each a) (taken_in es)), rest.1 ∙ same)
  runs-weigh (took at_end ∷ es) x y len light p =
      let same : length (p.0).groups ≡ length x.groups = ap (λ (v : View U Work). length v.groups) p.1 in
      let rest = runs-weigh es p.0 y (same ∙ len) light p.2 in
      (omega (arith, ap (desks_weight w f) p.1, rest.0, sum_by-cons (ring_weight f) at_end (taken_in es)), rest.1 ∙ same)
  runs-weigh (came c s ∷ es) x y len light p =
      let one = came-weighs s x p.0 len p.1.0 p.1.1 in
      let rest = runs-weigh es p.0 y (one.1 ∙ len) light p.2 in
      (omega (arith, one.0, rest.0, sum_by-cons (parcel_weight w f) s (parcels_in (landed_in es))), rest.1 ∙ one.1)
  runs-weigh (worked most ∷ es) x y len light p =
      let one = work-weighs w f counted name stepped advanced env x.core (λ a items b so. steps a x.core items b so) most x p.0 p.1 in
      let rest = runs-weigh es p.0 y (one.1 ∙ len) light p.2 in
      (omega (arith, one.0, rest.0), rest.1 ∙ one.1)
  runs-weigh (lent g u bufs v ∷ es) x y len light p =
      let one = lent-weighs g u bufs v x p.0 p.1.0 p.1.1 p.1.2 in
      let rest = runs-weigh es p.0 y (one.1 ∙ len) light p.2 in
      (omega (arith, one.0, rest.0, sum_by-append (λ (b : Buffer). f b.name) bufs (all_of (handed_out es))), rest.1 ∙ one.1)
  runs-weigh (gone s ∷ es) x y len light p =
      let one = ships-weighs w f x p.0 s len p.1 in
      let same : length (p.0).groups ≡ length x.groups = ap (λ (v : View U Work). length v.groups) (p.1).over ∙ length-set x.groups s.group _ in
      let rest = runs-weigh es p.0 y (same ∙ len) light p.2 in
      (omega (arith, one, rest.0, sum_by-cons (parcel_weight w f) s (shipped_in es)), rest.1 ∙ same)

  pub run-weighs : (x y : View U Work) (items : List Item) (ins : List (ℕ × Parcel U Work)) (frees : List (List Buffer)) (outs : List (Parcel U Work)) → length x.groups ≡ 512
      → Run counted name stepped advanced drained env x y (map ring_item items) ins frees outs
      → desks_weight w f y + (buffers_weight f (all_of frees) + parcels_weight w f outs) ≡ desks_weight w f x + (items_weight f items + parcels_weight w f (parcels_in ins))
  run-weighs x y items ins frees outs len r =
      let light : AllLight f (taken_in r.events) = subst (AllLight f) (sym r.took_all) (items-light f items) in
      let all = runs-weigh r.events x y len light r.runs in
      omega (
        arith,
        all.0,
        ap (sum_by (ring_weight f)) r.took_all,
        items-ring f items,
        ap (λ l. parcels_weight w f (parcels_in l)) r.landed_all,
        ap (λ l. buffers_weight f (all_of l)) r.handed_all,
        ap (parcels_weight w f) r.shipped_all,
      )

  -- the desks of all groups are there still
  pub run-groups : (x y : View U Work) (items : List Item) (ins : List (ℕ × Parcel U Work)) (frees : List (List Buffer)) (outs : List (Parcel U Work)) → length x.groups ≡ 512
      → Run counted name stepped advanced drained env x y (map ring_item items) ins frees outs → length y.groups ≡ 512
  run-groups x y items ins frees outs len r =
      let light : AllLight f (taken_in r.events) = subst (AllLight f) (sym r.took_all) (items-light f items) in
      (runs-weigh r.events x y len light r.runs).1 ∙ len
