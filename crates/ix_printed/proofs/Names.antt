-- The names of all buffers that are held, as lists.
use Rattle.std.proofs.Common.{◌+◌, ℕ, List, [], ◌∷◌, ◌++◌, map, sum_by, refl, arith}
use Rattle.std.specs.Prelude.{Option, Some, None}
use Rattle.std.proofs.lemmas.List.Sums.{sum_by-append, sum_by-cons}
use Rattle.ix_mbuf.specs.declared.name.Name.{Name}
use Rattle.ix_mbuf.specs.Buffers.{Buffer, buffers_weight}
use Rattle.ix_mbuf.specs.Owners.{maybe}
use Rattle.ix_uses.specs.Uses.{AreNames}
use Rattle.ix_desk.specs.Views.{Arrival, CutPiece, Group, Piece, View}
use Rattle.ix_desk.specs.declared.unit.Shipment.{Shipment}
use Rattle.ix_history.specs.Events.{Parcel}
use Rattle.ix_stack.specs.declared.item.Item.{Item}
use Rattle.ix_stack.specs.declared.item.Item.TheVariants as items
use Rattle.ix_stack.specs.declared.work.Taken.{Taken}
use Rattle.ix_stack.specs.declared.work.Work.{Work}
use Rattle.ix_stack.specs.declared.work.Work.TheVariants as works
use Rattle.ix_stack.specs.Items.{item_weight, items_weight}
use Rattle.ix_stack.specs.Works.{work_weight, works_weight}
use Rattle.ix_nic.specs.Cards.{CardView}
use Rattle.ix_nic.specs.Ports.{PortView}
use Rattle.ix_core.specs.declared.link.Link.{Link}
use Rattle.ix_core.specs.declared.message.Message.{Message}
use Rattle.ix_core.specs.declared.message.Message.TheVariants as messages
use Rattle.ix_core.specs.declared.turning.Core.{Core}
use Rattle.ix_core.specs.Landing.{parcel_of}
use Rattle.ix_core.specs.Renewing.{posted_weight}
use Rattle.ix_core.specs.Weights.{arrival_weight, core_weight, cut_weight, desks_weight, group_weight, link_weight, message_weight, messages_weight, parcel_weight, piece_weight, ships_weight}
use Rattle.ix_homes.specs.Held.{held, kept_weight}
use Rattle.ix_plainstack.specs.Kept.{frames_weight}
use Rattle.ix_plainstack.specs.Stack.{Stack, stack_weight}

-- ## Sums
no-name : AreNames (λ f. 0)
no-name = record { names = []; sum = λ f. refl }

one-name : (x : Name) → AreNames (λ f. f x)
one-name x = record { names = x ∷ []; sum = λ f. omega (arith, sum_by-cons f x []) }

these : (names : List Name) → AreNames (λ f. sum_by f names)
these names = record { names = names; sum = λ f. refl }

both : (v w : (Name → ℕ) → ℕ) → AreNames v → AreNames w → AreNames (λ f. v f + w f)
both v w a b = record { names = a.names ++ b.names; sum = λ f. omega (arith, a.sum f, b.sum f, sum_by-append f a.names b.names) }

of-all : {X : Type 0} (w : (Name → ℕ) → X → ℕ) → ((x : X) → AreNames (λ f. w f x)) → (xs : List X) → AreNames (λ f. sum_by (w f) xs)
of-all w each [] = record { names = []; sum = λ f. refl }
of-all w each (x ∷ xs) = record {
  names = (each x).names ++ (of-all w each xs).names;
  sum = λ f. omega (arith, (each x).sum f, (of-all w each xs).sum f, sum_by-cons (w f) x xs, sum_by-append f (each x).names (of-all w each xs).names);
}

of-some : {X : Type 0} (w : (Name → ℕ) → X → ℕ) → ((x : X) → AreNames (λ f. w f x)) → (o : Option X) → AreNames (λ f. maybe (w f) o)
of-some w each None = no-name
of-some w each (Some x) = each x

-- ## Buffers, frames and items
in-buffers : (bufs : List Buffer) → AreNames (λ f. buffers_weight f bufs)
in-buffers bufs = of-all (λ f (b : Buffer). f b.name) (λ b. one-name b.name) bufs

in-frames : (ts : List Taken) → AreNames (λ f. frames_weight f ts)
in-frames ts = of-all (λ f (t : Taken). f t.buf.name) (λ t. one-name t.buf.name) ts

in-work : (x : Work) → AreNames (λ f. work_weight f x)
in-work (works.Frame t) = one-name t.buf.name
in-work (works.Time w t) = no-name

in-works : (xs : List Work) → AreNames (λ f. works_weight f xs)
in-works xs = of-all work_weight in-work xs

in-item : (x : Item) → AreNames (λ f. item_weight f x)
in-item (items.Frame w g buf) = one-name buf.name
in-item (items.Tag g) = no-name
in-item (items.Cut g to) = no-name
in-item (items.Start g k) = no-name
in-item (items.Time w t) = no-name
in-item items.End = no-name

in-items : (xs : List Item) → AreNames (λ f. items_weight f xs)
in-items xs = of-all item_weight in-item xs

-- ## Desks and cores
module _ {U : Type 0} (weight : (Name → ℕ) → U → ℕ) (in-unit : (u : U) → AreNames (λ f. weight f u)) where
  in-piece : (p : Piece U Work) → AreNames (λ f. piece_weight (weight f) f p)
  in-piece p =
      both (λ f. maybe (weight f) p.unit) (λ f. works_weight f p.remote + (works_weight f p.local + works_weight f p.behind)) (of-some weight in-unit p.unit)
      (both (λ f. works_weight f p.remote) (λ f. works_weight f p.local + works_weight f p.behind) (in-works p.remote)
      (both (λ f. works_weight f p.local) (λ f. works_weight f p.behind) (in-works p.local) (in-works p.behind)))

  in-arrival : (a : Arrival U Work) → AreNames (λ f. arrival_weight (weight f) f a)
  in-arrival a = both (λ f. weight f a.unit) (λ f. works_weight f a.queue) (in-unit a.unit) (in-works a.queue)

  in-group : (g : Group U Work) → AreNames (λ f. group_weight (weight f) f g)
  in-group g =
      both (λ f. sum_by (cut_weight (weight f) f) g.cut) (λ f. maybe (piece_weight (weight f) f) g.current + sum_by (arrival_weight (weight f) f) g.early)
      (of-all (λ f. cut_weight (weight f) f) (λ (c : CutPiece U Work). in-piece c.piece) g.cut)
      (both (λ f. maybe (piece_weight (weight f) f) g.current) (λ f. sum_by (arrival_weight (weight f) f) g.early)
      (of-some (λ f. piece_weight (weight f) f) in-piece g.current) (of-all (λ f. arrival_weight (weight f) f) in-arrival g.early))

  in-desks : (v : View U Work) → AreNames (λ f. desks_weight (weight f) f v)
  in-desks v = of-all (λ f. group_weight (weight f) f) in-group v.groups

  in-parcel : (s : Parcel U Work) → AreNames (λ f. parcel_weight (weight f) f s)
  in-parcel s = both (λ f. weight f s.unit) (λ f. works_weight f s.queue) (in-unit s.unit) (in-works s.queue)

  module _ {E : Type 0} where
    in-ships : (ss : List (Shipment U Work E)) → AreNames (λ f. ships_weight (weight f) f ss)
    in-ships ss = of-all (λ f. parcel_weight (weight f) f) in-parcel (map parcel_of ss)

    in-message : (m : Message U E) → AreNames (λ f. message_weight (weight f) f m)
    in-message (messages.Ship s) = in-parcel (parcel_of s)
    in-message (messages.Home b) = one-name b.name

    in-link : (l : Link U E) → AreNames (λ f. link_weight (weight f) f l)
    in-link l =
        both (λ f. ships_weight (weight f) f l.ships.items) (λ f. messages_weight (weight f) f l.waiting.items) (in-ships l.ships.items)
        (of-all (λ f. message_weight (weight f) f) in-message l.waiting.items)

    in-core : (c : Core U E) → AreNames (λ f. core_weight (weight f) f c)
    in-core c =
        both (λ f. sum_by f c.pool.free + buffers_weight f c.returns.items)
        (λ f. items_weight f c.came.items + (desks_weight (weight f) f c.desks + (sum_by (link_weight (weight f) f) c.links.items + ships_weight (weight f) f c.lost.items)))
        (both (λ f. sum_by f c.pool.free) (λ f. buffers_weight f c.returns.items) (these c.pool.free) (in-buffers c.returns.items))
        (both (λ f. items_weight f c.came.items) (λ f. desks_weight (weight f) f c.desks + (sum_by (link_weight (weight f) f) c.links.items + ships_weight (weight f) f c.lost.items))
        (in-items c.came.items)
        (both (λ f. desks_weight (weight f) f c.desks) (λ f. sum_by (link_weight (weight f) f) c.links.items + ships_weight (weight f) f c.lost.items) (in-desks c.desks)
        (both (λ f. sum_by (link_weight (weight f) f) c.links.items) (λ f. ships_weight (weight f) f c.lost.items) (of-all (λ f. link_weight (weight f) f) in-link c.links.items) (in-ships c.lost.items))))

    pub all-held : (card : CardView) (cores : List (Core U E)) → AreNames (held weight card cores)
    all-held card cores =
        both (λ f. sum_by (core_weight (weight f) f) cores) (λ f. sum_by (posted_weight f) card.ports + sum_by (kept_weight f) card.ports)
        (of-all (λ f. core_weight (weight f) f) in-core cores)
        (both (λ f. sum_by (posted_weight f) card.ports) (λ f. sum_by (kept_weight f) card.ports) (of-all posted_weight (λ (p : PortView). in-buffers p.posts.known) card.ports) (of-all kept_weight in-kept card.ports))
      where
        in-kept : (p : PortView) → AreNames (λ f. kept_weight f p)
        in-kept p = of-some (λ f (b : Buffer). f b.name) (λ b. one-name b.name) p.kept

-- ## The plain stack
pub in-stack : (s : Stack) → AreNames (λ f. stack_weight f s)
in-stack s =
    let b = s.owning.buffers in
    both (λ f. frames_weight f b.held) (λ f. frames_weight f b.app + (frames_weight f b.queue + buffers_weight f b.freed)) (in-frames b.held)
    (both (λ f. frames_weight f b.app) (λ f. frames_weight f b.queue + buffers_weight f b.freed) (in-frames b.app)
    (both (λ f. frames_weight f b.queue) (λ f. buffers_weight f b.freed) (in-frames b.queue) (in-buffers b.freed)))
