-- What stands behind a ring was put, and then a frame was offered.
use Rattle.std.proofs.Common.{◌≡◌, ◌≤◌, ℕ, List, [], ◌∷◌, ◌++◌, None, Some, ap, subst, ◌∙◌, append-nil, inl, inr}
use Rattle.ix_base.specs.declared.id.BufId.{BufId}
use Rattle.ix_base.specs.declared.id.CoreId.{CoreId}
use Rattle.ix_base.specs.declared.id.GroupId.{GroupId}
use Rattle.ix_base.specs.declared.id.WireNo.{WireNo}
use Rattle.ix_mbuf.specs.Buffers.{Buffer}
use Rattle.ix_ring.specs.Views.{TakeView}
use Rattle.ix_ring.specs.Ends.{known}
use Rattle.ix_stack.specs.declared.item.Item.{Item}
use Rattle.ix_stack.specs.declared.item.Item.TheVariants.{Frame}
use Rattle.ix_nic.specs.declared.offer.Offer.{Offer}
use Rattle.ix_nic.specs.declared.offer.Offer.TheVariants.{TooLong, RingFull, NoBuffer, Accepted}
use Rattle.ix_nic.specs.Ports.{PortView, PutsOn, whole, one_more, counted, ended_by, Puts, TakesNext}
use Rattle.ix_nic.specs.Offers.{filled, Accepts, StandsBehind, GivesBack, IsFull, LacksBuffer, Answers}
use Rattle.ix_nic.proofs.PortLemmas.{puts_then}

module _ (p m q : PortView) (first : Puts None p m) where
  puts_more : PutsOn m.ring q.ring → PutsOn p.ring q.ring
  puts_more s = puts_then p.ring m.ring q.ring first.ring s

  whole_kept : whole m ≡ whole p
  whole_kept = first.whole ∙ append-nil (whole p)

  takes_same : (buf : Buffer) (posts : TakeView Buffer) → TakesNext m.kept m.posts buf posts → TakesNext p.kept p.posts buf posts
  takes_same buf posts t = subst (λ (x : PortView). TakesNext x.kept x.posts buf posts) first.rest t

  puts_after : Puts None m q → Puts None p q
  puts_after s = record {
    ring = puts_more s.ring;
    whole = s.whole ∙ ap (λ (xs : List Item). xs ++ []) whole_kept;
    stops = s.stops;
    rest = s.rest ∙ ap (λ (x : PortView). record x { ring = q.ring; behind = q.behind; items = counted None x.items; ended = ended_by None x.ended }) first.rest;
  }

  stands_after : StandsBehind m q → StandsBehind p q
  stands_after s = record {
    ring = puts_more s.ring;
    whole = s.whole ∙ whole_kept;
    behind = s.behind;
    full = s.full;
    rest = s.rest ∙ ap (λ (x : PortView). record x { ring = q.ring; behind = q.behind }) first.rest;
  }

  gives_after : (frame : List ℕ) → GivesBack frame m q → GivesBack frame p q
  gives_after frame s = record {
    buf = s.buf;
    takes = takes_same s.buf q.posts s.takes;
    ring = puts_more s.ring;
    whole = s.whole ∙ whole_kept;
    full = s.full;
    rest = s.rest ∙ ap (λ (x : PortView). record x { ring = q.ring; behind = []; posts = q.posts; kept = Some (filled s.buf frame) }) first.rest;
  }

  full_after : (frame : List ℕ) → IsFull frame m q → IsFull frame p q
  full_after frame s = record {
    items = subst (λ (x : PortView). 512 ≤ x.items) first.rest s.items;
    cause = elim s.cause [ inl b ↦ inl (stands_after b) | inr b ↦ inr (gives_after frame b) ];
  }

  lacks_after : LacksBuffer m q → LacksBuffer p q
  lacks_after s = record {
    frames = subst (λ (x : PortView). x.posted ≤ x.frames) first.rest s.frames;
    none_kept = subst (λ (x : PortView). x.kept ≡ None) first.rest s.none_kept;
    none_known = subst (λ (x : PortView). known x.posts ≡ []) first.rest s.none_known;
    ring = puts_more s.ring;
    whole = s.whole ∙ whole_kept;
    rest = s.rest ∙ ap (λ (x : PortView). record x { ring = q.ring; behind = [] }) first.rest;
  }

  accepts_after : (w : WireNo) (group : GroupId) (frame : List ℕ) (id : BufId) → Accepts w group frame id m q → Accepts w group frame id p q
  accepts_after w group frame id s = record {
    buf = s.buf;
    takes = takes_same s.buf q.posts s.takes;
    id_is = s.id_is;
    ring = puts_more s.ring;
    whole = s.whole ∙ ap (λ (xs : List Item). xs ++ Frame w group (filled s.buf frame) ∷ []) whole_kept;
    rest = s.rest
        ∙ ap (λ (x : PortView). record x { ring = q.ring; behind = []; posts = q.posts; kept = None; items = one_more x.items; frames = one_more x.frames }) first.rest;
  }

  pub answers_after : (w : WireNo) (g : ℕ) (core : CoreId) (frame : List ℕ) (answer : Offer) → Answers w g core frame answer m q
      → Answers w g core frame answer p q
  answers_after w g core frame (TooLong len) a = (a.0, a.1, puts_after a.2)
  answers_after w g core frame (RingFull ring group items) a =
      (a.0, a.1, a.2, a.3 ∙ ap (λ (x : PortView). x.items) first.rest, full_after frame a.4)
  answers_after w g core frame (NoBuffer ring group frames) a =
      (a.0, a.1, a.2, a.3 ∙ ap (λ (x : PortView). x.frames) first.rest, lacks_after a.4)
  answers_after w g core frame (Accepted ring group buf) a = (a.0, a.1, a.2, accepts_after w group frame buf a.3)
