-- What the calls make of the weights.
use Rattle.std.proofs.Common.{◌≡◌, ◌+◌, ℕ, Bool, true, false, List, [], ◌∷◌, ◌++◌, Option, Some, None, map, sum_by, refl, arith}
use Rattle.std.specs.Prelude.{if◌then◌else◌, ◌&&◌, ◌==◌, is_some, is_none, ◌||◌}
use Rattle.std.proofs.lemmas.List.Sums.{sum_by-cons, sum_by-append, sum_by_push}
use Rattle.ix_base.specs.declared.id.CoreId.{CoreId}
use Rattle.ix_mbuf.specs.declared.name.Name.{Name}
use Rattle.ix_mbuf.specs.Owners.{maybe}
use Rattle.ix_desk.specs.declared.unit.DeskItem.{DeskItem}
use Rattle.ix_desk.specs.declared.unit.DeskItem.TheVariants as desk
use Rattle.ix_desk.specs.Views.{Piece, CutPiece, Arrival, Group}
use Rattle.ix_desk.specs.Pieces.{begun, with_item, with_arrival, awaits, is_nil}
use Rattle.ix_desk.specs.Groups.{fits, taken, landed, item_put, tag_put, cut_of, arrival_of, arrivals_but, cut_awaits, cut_seated, current_awaits, current_seated}
use Rattle.ix_stack.specs.declared.work.Work.{Work}
use Rattle.ix_stack.specs.Works.{work_weight, works_weight}
use Rattle.ix_history.specs.Events.{given}
use Rattle.ix_core.specs.Weights.{piece_weight, cut_weight, arrival_weight, group_weight}

pub and-first : (a b : Bool) → (a && b) ≡ true → a ≡ true
and-first true b e = refl
and-first false b e = e

pub and-second : (a b : Bool) → (a && b) ≡ true → b ≡ true
and-second true b e = e
and-second false b e = absurd (cc)

pub nil-weighs : (f : Name → ℕ) (xs : List Work) → is_nil xs ≡ true → works_weight f xs ≡ 0
nil-weighs f [] e = refl
nil-weighs f (x ∷ xs) e = absurd (cc)

abbrev pub desk_weight : (Name → ℕ) → DeskItem Work → ℕ
desk_weight f (desk.Work x) = work_weight f x
desk_weight f desk.Tag = 0
desk_weight f (desk.Cut to) = 0
desk_weight f (desk.Start k) = 0

module _ {U : Type 0} (w : U → ℕ) (f : Name → ℕ) where
  branch-weighs : (b : Bool) (x : Work) (local behind : List Work)
      → works_weight f (if b then local else local ++ x ∷ []) + works_weight f (if b then behind ++ x ∷ [] else behind) ≡ (works_weight f local + works_weight f behind) + work_weight f x
  branch-weighs true x local behind = omega (arith, sum_by_push (work_weight f) behind x)
  branch-weighs false x local behind = omega (arith, sum_by_push (work_weight f) local x)

  item-weighs : (x : Work) (p : Piece U Work) → piece_weight w f (with_item p x) ≡ piece_weight w f p + work_weight f x
  item-weighs x p = omega (arith, branch-weighs p.tagged x p.local p.behind)

  put-weighs : (x : Work) (o : Option (Piece U Work)) → is_some o ≡ true → maybe (piece_weight w f) (item_put x o) ≡ maybe (piece_weight w f) o + work_weight f x
  put-weighs x None e = absurd (cc)
  put-weighs x (Some p) e = item-weighs x p

  tag-weighs : (o : Option (Piece U Work)) → maybe (piece_weight w f) (tag_put o) ≡ maybe (piece_weight w f) o
  tag-weighs None = refl
  tag-weighs (Some p) = refl

  cut-weighs : (to : CoreId) (o : Option (Piece U Work)) → sum_by (cut_weight w f) (cut_of to o) ≡ maybe (piece_weight w f) o
  cut-weighs to None = refl
  cut-weighs to (Some p) = omega (arith, sum_by-cons (cut_weight w f) (record { to = to.0; piece = p }) [])

  arrival-case : (b : Bool) (a : Arrival U Work) (o : Option (Arrival U Work)) (xs ys : List (Arrival U Work))
      → maybe (arrival_weight w f) o + sum_by (arrival_weight w f) ys ≡ sum_by (arrival_weight w f) xs
      → maybe (arrival_weight w f) (if b then Some a else o) + sum_by (arrival_weight w f) (if b then xs else a ∷ ys) ≡ sum_by (arrival_weight w f) (a ∷ xs)
  arrival-case true a o xs ys e = omega (arith, sum_by-cons (arrival_weight w f) a xs)
  arrival-case false a o xs ys e = omega (arith, e, sum_by-cons (arrival_weight w f) a xs, sum_by-cons (arrival_weight w f) a ys)

  arrival-weighs : (k : ℕ) (xs : List (Arrival U Work)) → maybe (arrival_weight w f) (arrival_of k xs) + sum_by (arrival_weight w f) (arrivals_but k xs) ≡ sum_by (arrival_weight w f) xs
  arrival-weighs k [] = refl
  arrival-weighs k (a ∷ xs) = arrival-case (a.tenure == k) a (arrival_of k xs) xs (arrivals_but k xs) (arrival-weighs k xs)

  begun-weighs : (k : ℕ) (o : Option (Arrival U Work)) → piece_weight w f (begun k o) ≡ maybe (arrival_weight w f) o
  begun-weighs k None = refl
  begun-weighs k (Some a) = omega arith

  none-weighs : (o : Option (Piece U Work)) → is_none o ≡ true → maybe (piece_weight w f) o ≡ 0
  none-weighs None e = refl
  none-weighs (Some p) e = absurd (cc)

  -- a group that takes an item that fits
  pub taken-weighs : (g : Group U Work) (it : DeskItem Work) → fits g it ≡ true → group_weight w f (taken g it) ≡ group_weight w f g + desk_weight f it
  taken-weighs g (desk.Work x) e = omega (arith, put-weighs x g.current e)
  taken-weighs g desk.Tag e = omega (arith, tag-weighs g.current)
  taken-weighs g (desk.Cut to) e = omega (arith, cut-weighs to g.current, sum_by-append (cut_weight w f) g.cut (cut_of to g.current))
  taken-weighs g (desk.Start k) e = omega (arith, none-weighs g.current (and-first _ _ e), arrival-weighs k g.early, begun-weighs k (arrival_of k g.early))

  timed-case : (b : Bool) (g : Group U Work) (x : Work) → work_weight f x ≡ 0 → (fits g (desk.Work x) ≡ b) → group_weight w f (if b then taken g (desk.Work x) else g) ≡ group_weight w f g
  timed-case true g x light e = omega (arith, taken-weighs g (desk.Work x) e, light)
  timed-case false g x light e = refl

  pub timed-weighs : (x : Work) → work_weight f x ≡ 0 → (gs : List (Group U Work)) → sum_by (group_weight w f) (map (given x) gs) ≡ sum_by (group_weight w f) gs
  timed-weighs x light [] = refl
  timed-weighs x light (g ∷ gs) = omega (arith, timed-weighs x light gs, timed-case (is_some g.current) g x light refl, sum_by-cons (group_weight w f) (given x g) (map (given x) gs), sum_by-cons (group_weight w f) g gs)

  absent-weighs : (o : Option U) → is_none o ≡ true → maybe w o ≡ 0
  absent-weighs None e = refl
  absent-weighs (Some u) e = absurd (cc)

  seated-weighs : (a : Arrival U Work) (p : Piece U Work) → awaits a.tenure p ≡ true → piece_weight w f (with_arrival a p) ≡ piece_weight w f p + arrival_weight w f a
  seated-weighs a p e = omega (arith, absent-weighs p.unit (and-first _ _ e), nil-weighs f p.remote (and-first _ _ (and-second _ _ e)))

  -- a weight that counts where a test holds
  abbrev when : Bool → ℕ → ℕ
  when true n = n
  when false n = 0

  cut-case : (b : Bool) (a : Arrival U Work) (c : CutPiece U Work) (cs : List (CutPiece U Work)) → awaits a.tenure c.piece ≡ b
      → sum_by (cut_weight w f) (cut_seated a cs) ≡ sum_by (cut_weight w f) cs + when (cut_awaits a.tenure cs) (arrival_weight w f a)
      → sum_by (cut_weight w f) (if b then record { to = c.to; piece = with_arrival a c.piece } ∷ cs else c ∷ cut_seated a cs)
      ≡ sum_by (cut_weight w f) (c ∷ cs) + when (if b then true else cut_awaits a.tenure cs) (arrival_weight w f a)
  cut-case true a c cs e rest = omega (arith, seated-weighs a c.piece e, sum_by-cons (cut_weight w f) (record { to = c.to; piece = with_arrival a c.piece }) cs, sum_by-cons (cut_weight w f) c cs)
  cut-case false a c cs e rest = omega (arith, rest, sum_by-cons (cut_weight w f) c (cut_seated a cs), sum_by-cons (cut_weight w f) c cs)

  or-if : (a b : Bool) (n : ℕ) → when (if a then true else b) n ≡ when (a || b) n
  or-if true b n = refl
  or-if false b n = refl

  cut_seated-weighs : (a : Arrival U Work) (cs : List (CutPiece U Work)) → sum_by (cut_weight w f) (cut_seated a cs) ≡ sum_by (cut_weight w f) cs + when (cut_awaits a.tenure cs) (arrival_weight w f a)
  cut_seated-weighs a [] = refl
  cut_seated-weighs a (c ∷ cs) = omega (arith, cut-case (awaits a.tenure c.piece) a c cs refl (cut_seated-weighs a cs), or-if (awaits a.tenure c.piece) (cut_awaits a.tenure cs) (arrival_weight w f a))

  current-case : (b : Bool) (a : Arrival U Work) (p : Piece U Work) → awaits a.tenure p ≡ b
      → maybe (piece_weight w f) (if b then Some (with_arrival a p) else Some p) ≡ piece_weight w f p + when b (arrival_weight w f a)
  current-case true a p e = seated-weighs a p e
  current-case false a p e = omega arith

  current_seated-weighs : (a : Arrival U Work) (o : Option (Piece U Work)) → maybe (piece_weight w f) (current_seated a o) ≡ maybe (piece_weight w f) o + when (current_awaits a.tenure o) (arrival_weight w f a)
  current_seated-weighs a None = refl
  current_seated-weighs a (Some p) = current-case (awaits a.tenure p) a p refl

  landed-case : (b c : Bool) (a : Arrival U Work) (cut cut' : ℕ) (o o' : Option (Piece U Work)) (early : List (Arrival U Work))
      → cut' ≡ cut + when b (arrival_weight w f a) → maybe (piece_weight w f) o' ≡ maybe (piece_weight w f) o + when c (arrival_weight w f a)
      → cut' + (maybe (piece_weight w f) (if b then o else o') + sum_by (arrival_weight w f) (if b || c then early else early ++ a ∷ []))
      ≡ (cut + (maybe (piece_weight w f) o + sum_by (arrival_weight w f) early)) + arrival_weight w f a
  landed-case true c a cut cut' o o' early p q = omega (arith, p)
  landed-case false true a cut cut' o o' early p q = omega (arith, p, q)
  landed-case false false a cut cut' o o' early p q = omega (arith, p, q, sum_by_push (arrival_weight w f) early a)

  -- a group at which a unit arrives
  pub landed-weighs : (g : Group U Work) (a : Arrival U Work) → group_weight w f (landed g a) ≡ group_weight w f g + arrival_weight w f a
  landed-weighs g a =
      landed-case (cut_awaits a.tenure g.cut) (current_awaits a.tenure g.current) a (sum_by (cut_weight w f) g.cut) (sum_by (cut_weight w f) (cut_seated a g.cut)) g.current (current_seated a g.current) g.early
      (cut_seated-weighs a g.cut) (current_seated-weighs a g.current)
