-- The buffers of the frames that are out are at desks, each as often.
use Rattle.std.proofs.Common.{◌≡◌, ℕ, ◌+◌, ◌<◌, ◌≤◌, Bool, true, false, List, [], ◌∷◌, ◌++◌, length, map, refl, sym, ap, ◌∙◌, arith}
use Rattle.std.specs.Prelude.{◌&&◌, ◌||◌, if◌then◌else◌, nat_le, nat_lt, Option, sum_by}
use Rattle.std.specs.List.{AllByRecursion}
use Rattle.std.proofs.lemmas.Bool.Decides.{nat_tests}
use Rattle.std.proofs.lemmas.List.Sums.{sum_by-append, sum_by-cons}
use Rattle.ix_base.specs.declared.id.TheConstants.{FLOW_GROUPS}
use Rattle.ix_base.specs.declared.id.WireNo.{WireNo}
use Rattle.ix_mbuf.specs.Owners.{maybe}
use Rattle.ix_mbuf.specs.declared.name.Name.{Name}
use Rattle.ix_desk.specs.Desks.{group_at}
use Rattle.ix_desk.specs.Views.{Arrival, CutPiece, Group, Piece}
use Rattle.ix_stack.specs.Works.{works_weight}
use Rattle.ix_stack.specs.declared.work.Work.{Work}
use Rattle.ix_tcpdef.specs.declared.types.Connection.{Connection}
use Rattle.ix_tcpdef.specs.declared.types.HeldSegment.{HeldSegment}
use Rattle.ix_groupdef.specs.Group as groups
use Rattle.ix_groupdef.specs.Group.{Cycle}
use Rattle.ix_groupdef.specs.Life.{Life, lives}
use Rattle.ix_groupdef.specs.Owners.{Ended, acknowledged_by, is_queued, is_with_app, sends_parts, taken_by, told_parts}
use Rattle.ix_lines.specs.declared.types.EntryLine.{EntryLine}
use Rattle.ix_core.specs.Weights.{arrival_weight, cut_weight, group_weight, piece_weight}
use Rattle.ix_fits.specs.Owners.{Play, all_groups, group_after, is_out, out_after, out_from, parts_out, waiting}
use Rattle.ix_fits.specs.Owners as outs
use Rattle.ix_plainstack.specs.Numbers.{app_numbers, held_by, held_numbers, numbers_where, parts_by, queue_numbers}
use Rattle.ix_plainstack.specs.Stack.{Stack, stack_weight}
use Rattle.ix_stack.specs.declared.work.Taken.{Taken}
use Rattle.ix_settled.specs.Cuts.{StandsAt}
use Rattle.ix_settled.specs.Moments.{Moment, Opening}
use Rattle.ix_settled.specs.Renamed.{AgreesWith}
use Rattle.ix_owned.specs.Owned.{out_weight}
use Rattle.ix_owned.proofs.Homes.{HasPiece, IsBlank, frames-numbers, groups-bound, piece-at, play, waits-behind, waits-one, waits-weigh}

-- ## What connections own, in both orders
held-same : (hs : List HeldSegment) → outs.held_by hs ≡ map (λ (h : HeldSegment). h.w) hs
held-same [] = refl
held-same (h ∷ hs) = ap (λ z. h.w ∷ z) (held-same hs)

module _ (h : WireNo → ℕ) where
  abbrev weigh : List WireNo → ℕ
  weigh ws = sum_by h ws

  -- a part is with the application or queued, and never both
  one-part : (taken : ℕ) (end : ℕ) (acked : Bool) (w : WireNo)
      → weigh (if nat_lt taken end || (nat_le end taken && acked) then w ∷ [] else []) ≡ weigh (if nat_lt taken end then w ∷ [] else []) + weigh (if nat_le end taken && acked then w ∷ [] else [])
  one-part taken end acked w = by_test (nat_lt taken end) refl
    where
      by_test : (q : Bool) → nat_lt taken end ≡ q
          → weigh (if q || (nat_le end taken && acked) then w ∷ [] else []) ≡ weigh (if q then w ∷ [] else []) + weigh (if nat_le end taken && acked then w ∷ [] else [])
      by_test true e = let far : nat_le end taken ≡ false = grind (arith, nat_tests) in rw far (omega arith)
      by_test false e = omega arith

  numbers-cons : (q : Bool) (w : WireNo) (ws : List WireNo) → weigh (if q then w ∷ ws else ws) ≡ weigh (if q then w ∷ [] else []) + weigh ws
  numbers-cons true w ws = sum_by-append h (w ∷ []) ws
  numbers-cons false w ws = omega arith

  parts-weigh : (c : Connection) (es : List Ended) → weigh (parts_out c es) ≡ weigh (numbers_where (is_with_app c) es) + weigh (numbers_where (is_queued c) es)
  parts-weigh c [] = refl
  parts-weigh c (e ∷ es) =
      let both = sum_by-append h (if is_out c e.end then e.w ∷ [] else []) (parts_out c es) in
      let one = one-part (taken_by c) e.end (nat_lt (acknowledged_by c) e.end) e.w in
      let rest = parts-weigh c es in
      let app = numbers-cons (is_with_app c e.end) e.w (numbers_where (is_with_app c) es) in
      let queue = numbers-cons (is_queued c e.end) e.w (numbers_where (is_queued c) es) in
      omega (arith, both, one, rest, app, queue)

  life-parts : (q : Bool) (c : Connection) (es : List Ended)
      → weigh (if q then parts_out c es else []) ≡ weigh (if q then numbers_where (is_with_app c) es else []) + weigh (if q then numbers_where (is_queued c) es else [])
  life-parts true c es = parts-weigh c es
  life-parts false c es = refl

  pub owned-weigh : (whole : Bool) (ls : List Life) → weigh (outs.owned_by whole ls) ≡ weigh (held_numbers ls) + (weigh (app_numbers whole ls) + weigh (queue_numbers whole ls))
  owned-weigh whole [] = refl
  owned-weigh whole (l ∷ ls) =
      let q = whole && lives l in
      let parts = told_parts l.connection in
      let all = sum_by-append h (outs.held_by l.connection.held ++ (if q then parts_out l.connection parts else [])) (outs.owned_by whole ls) in
      let more = sum_by-append h (outs.held_by l.connection.held) (if q then parts_out l.connection parts else []) in
      let held = ap weigh (held-same l.connection.held) in
      let one = life-parts q l.connection parts in
      let rest = owned-weigh whole ls in
      let a = sum_by-append h (held_by l) (held_numbers ls) in
      let b = sum_by-append h (parts_by is_with_app whole l) (app_numbers whole ls) in
      let c = sum_by-append h (parts_by is_queued whole l) (queue_numbers whole ls) in
      omega (arith, all, more, held, one, rest, a, b, c)

-- ## Groups
group-blank : (w : Stack → ℕ) (f : Name → ℕ) (x : Group Stack Work) → IsBlank x → group_weight w f x ≡ 0
group-blank w f x b =
    ap (λ (cs : List (CutPiece Stack Work)). sum_by (cut_weight w f) cs + (maybe (piece_weight w f) x.current + sum_by (arrival_weight w f) x.early)) b.cut
    ∙ ap (λ (o : Option (Piece Stack Work)). 0 + (maybe (piece_weight w f) o + sum_by (arrival_weight w f) x.early)) b.current
    ∙ ap (λ (es : List (Arrival Stack Work)). 0 + (0 + sum_by (arrival_weight w f) es)) b.early

group-one : (w : Stack → ℕ) (f : Name → ℕ) (x : Group Stack Work) (q : Piece Stack Work) → HasPiece x q → group_weight w f x ≡ piece_weight w f q
group-one w f x q h =
    ap (λ (cs : List (CutPiece Stack Work)). sum_by (cut_weight w f) cs + (maybe (piece_weight w f) x.current + sum_by (arrival_weight w f) x.early)) h.cut
    ∙ ap (λ (o : Option (Piece Stack Work)). 0 + (maybe (piece_weight w f) o + sum_by (arrival_weight w f) x.early)) h.current
    ∙ ap (λ (es : List (Arrival Stack Work)). 0 + (piece_weight w f q + sum_by (arrival_weight w f) es)) h.early
    ∙ (let none : 0 + (piece_weight w f q + 0) ≡ piece_weight w f q = omega arith in none)

module _ (p : Opening) (entries : List EntryLine) (cycles : ℕ → List Cycle) (m : Moment) (sizes : (c : ℕ) → c < p.cores → length (m.desks c).groups ≡ FLOW_GROUPS)
    (agrees : AgreesWith entries p.name) (stand : (g : ℕ) → g < FLOW_GROUPS → StandsAt p (cycles g) g m) where
  abbrev the_play : Play
  the_play = play p entries cycles m sizes agrees stand

  abbrev by_name : (Name → ℕ) → WireNo → ℕ
  by_name f w = f (p.name w)

  -- what is out of a group
  abbrev group_out : ℕ → List WireNo
  group_out g = waiting m.done g ++ outs.owned_by the_play.whole (group_after the_play m.done g).lives

  out-weighs : (f : Name → ℕ) (gs : List ℕ) → sum_by (by_name f) (out_from the_play m.done gs) ≡ sum_by (λ g. sum_by (by_name f) (group_out g)) gs
  out-weighs f [] = refl
  out-weighs f (g ∷ gs) =
      let rest = out-weighs f gs in
      let a = sum_by-append (by_name f) (group_out g) (out_from the_play m.done gs) in
      let d = sum_by-cons (λ g. sum_by (by_name f) (group_out g)) g gs in
      omega (arith, rest, a, d)

  owned-at : (f : Name → ℕ) (g : ℕ) (lt : g < FLOW_GROUPS) → sum_by (by_name f) (outs.owned_by the_play.whole (group_after the_play m.done g).lives) ≤ stack_weight f (stand g lt).unit
  owned-at f g lt =
      let s = stand g lt in
      let b = s.unit.owning.buffers in
      let whole = sends_parts p.env.app in
      let ls = s.unit.owning.group.lives in
      let same = ap (λ (z : groups.Group). sum_by (by_name f) (outs.owned_by whole z.lives)) (sym s.stands.group) in
      let all = owned-weigh (by_name f) whole ls in
      let named_held = all-left (λ (t : Taken). t.buf.name ≡ p.name t.w) b.held (b.app ++ b.queue) s.stands.named in
      let named_rest = all-right (λ (t : Taken). t.buf.name ≡ p.name t.w) b.held (b.app ++ b.queue) s.stands.named in
      let named_app = all-left (λ (t : Taken). t.buf.name ≡ p.name t.w) b.app b.queue named_rest in
      let named_queue = all-right (λ (t : Taken). t.buf.name ≡ p.name t.w) b.app b.queue named_rest in
      let held = frames-numbers f p.name b.held named_held ∙ ap (sum_by (by_name f)) s.stands.held in
      let app = frames-numbers f p.name b.app named_app ∙ ap (sum_by (by_name f)) s.stands.app in
      let queue = frames-numbers f p.name b.queue named_queue ∙ ap (sum_by (by_name f)) s.stands.queue in
      omega (arith, same, all, held, app, queue)
    where
      all-left : {X : Type 0} (P : X → Type 0) (xs ys : List X) → AllByRecursion P (xs ++ ys) → AllByRecursion P xs
      all-left P [] ys h = tt
      all-left P (x ∷ xs) ys h = (h.0, all-left P xs ys h.1)

      all-right : {X : Type 0} (P : X → Type 0) (xs ys : List X) → AllByRecursion P (xs ++ ys) → AllByRecursion P ys
      all-right P [] ys h = h
      all-right P (x ∷ xs) ys h = all-right P xs ys h.1

  group-out-weighs : (f : Name → ℕ) (g : ℕ) (lt : g < FLOW_GROUPS) → sum_by (by_name f) (group_out g) ≤ group_weight (stack_weight f) f (group_at (m.desks (stand g lt).core) g)
  group-out-weighs f g lt =
      let s = stand g lt in
      let x = group_at (m.desks s.core) g in
      let both = sum_by-append (by_name f) (waiting m.done g) (outs.owned_by the_play.whole (group_after the_play m.done g).lives) in
      let waits = sym (waits-weigh p entries cycles m sizes agrees stand f g lt) ∙ ap (works_weight f) (waits-one x s.piece (piece-at p entries cycles m sizes agrees stand g lt) ∙ waits-behind s.piece s.ready) in
      let owned = owned-at f g lt in
      let one = group-one (stack_weight f) f x s.piece (piece-at p entries cycles m sizes agrees stand g lt) in
      let unit = ap (maybe (stack_weight f)) s.there in
      omega (arith, both, waits, owned, one, unit)

  -- The frames that are out weigh no more than all that is at desks.
  pub out-bound : (f : Name → ℕ) → sum_by (by_name f) (out_after the_play m.done) ≤ out_weight p m f
  out-bound f =
      let all = out-weighs f all_groups in
      let bound = groups-bound p entries cycles m sizes agrees stand FLOW_GROUPS refl (group_weight (stack_weight f) f) (group-blank (stack_weight f) f) (λ g. sum_by (by_name f) (group_out g)) (group-out-weighs f) in
      omega (arith, all, bound)
