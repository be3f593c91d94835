-- The buffers that the card took, over a call.
use Rattle.std.proofs.Common.{◌≡◌, ◌+◌, ◌++◌, [], ℕ, List, Bool, true, false, None, Some, get_or, refl, ap, sym, ◌∙◌, append-nil, inl, inr, arith}
use Rattle.std.proofs.lemmas.List.Sums.{sum_by-append, sum_by_push}
use Rattle.std.specs.Prelude.{if◌then◌else◌, ◌==◌, Option, option_to_list}
use Rattle.ix_base.specs.declared.id.BufId.{BufId}
use Rattle.ix_base.specs.declared.id.CoreId.{CoreId}
use Rattle.ix_base.specs.declared.id.GroupId.{GroupId}
use Rattle.ix_base.specs.declared.id.WireNo.{WireNo}
use Rattle.ix_mbuf.specs.Buffers.{Buffer, buffers_weight}
use Rattle.ix_mbuf.specs.Owners.{maybe}
use Rattle.ix_ring.specs.Views.{TakeView}
use Rattle.ix_ring.specs.Ends.{taken}
use Rattle.ix_stack.specs.Items.{item_weight, items_weight}
use Rattle.ix_stack.specs.declared.item.Item.{Item}
use Rattle.ix_stack.specs.declared.item.Item.TheVariants.{Frame, Tag, Cut, Start}
use Rattle.ix_nic.specs.declared.control.Control.{Control}
use Rattle.ix_nic.specs.declared.control.Control.TheVariants as controls
use Rattle.ix_nic.specs.declared.offer.Offer.{Offer}
use Rattle.ix_nic.specs.declared.offer.Offer.TheVariants.{TooLong, RingFull, NoBuffer, Accepted}
use Rattle.ix_nic.specs.Cards.{Carries}
use Rattle.ix_nic.specs.Controls.{item_on}
use Rattle.ix_nic.specs.Held.{Conserves, KeepsBuffers, taken_weight}
use Rattle.ix_nic.specs.Offers.{filled, Accepts, GivesBack, IsFull, Answers}
use Rattle.ix_nic.specs.Ports.{PortView, whole, Puts, TakesNext}

module _ (f : BufId → ℕ) where
  -- items without a buffer are put
  more_keeps : (p q : PortView) (items : List Item) → whole q ≡ whole p ++ items → items_weight (λ n. f n.id) items ≡ 0 → q.kept ≡ p.kept → q.posts ≡ p.posts
      → Conserves f p q
  more_keeps p q items more none kept posts =
      let on : items_weight (λ n. f n.id) (whole q) ≡ items_weight (λ n. f n.id) (whole p) + items_weight (λ n. f n.id) items =
      ap (items_weight (λ n. f n.id)) more ∙ sum_by-append (item_weight (λ n. f n.id)) (whole p) items in
      let keeps : maybe (λ (b : Buffer). f b.name.id) q.kept ≡ maybe (λ (b : Buffer). f b.name.id) p.kept = ap (maybe (λ (b : Buffer). f b.name.id)) kept in
      let took : taken_weight f q ≡ taken_weight f p = ap (λ (v : TakeView Buffer). buffers_weight (λ n. f n.id) (taken v)) posts in
      omega (arith, on, keeps, took, none)

  same_keeps : (p q : PortView) → whole q ≡ whole p → q.kept ≡ p.kept → q.posts ≡ p.posts → Conserves f p q
  same_keeps p q same kept posts = more_keeps p q [] (same ∙ sym (append-nil (whole p))) refl kept posts

  pub puts_keep : (p q : PortView) (item : Option Item) → items_weight (λ n. f n.id) (option_to_list item) ≡ 0 → Puts item p q → Conserves f p q
  puts_keep p q item none puts =
      more_keeps p q (option_to_list item) puts.whole none (ap (λ (x : PortView). x.kept) puts.rest) (ap (λ (x : PortView). x.posts) puts.rest)

  tag_weighs : (group : GroupId) (b : Bool) → items_weight (λ n. f n.id) (option_to_list (if b then Some (Tag group) else None)) ≡ 0
  tag_weighs group true = refl
  tag_weighs group false = refl

  turn_weighs : (group : GroupId) (to : CoreId) (tenure : ℕ) (a b : Bool)
      → items_weight (λ n. f n.id) (option_to_list (if a then Some (Cut group to) else if b then Some (Start group tenure) else None)) ≡ 0
  turn_weighs group to tenure true b = refl
  turn_weighs group to tenure false true = refl
  turn_weighs group to tenure false false = refl

  -- control items have no buffer
  control_weighs : (control : Control) (r : ℕ) → items_weight (λ n. f n.id) (option_to_list (item_on control r)) ≡ 0
  control_weighs controls.Nothing r = refl
  control_weighs (controls.Tag group core) r = tag_weighs group (r == core.0)
  control_weighs (controls.Turn group from to tenure) r = turn_weighs group to tenure (r == from.0) (r == to.0)
  control_weighs (controls.Time w t) r = refl
  control_weighs controls.End r = refl

  -- ## A frame
  took_one : (kept : Option Buffer) (old : TakeView Buffer) (buf : Buffer) (new : TakeView Buffer) → TakesNext kept old buf new
      → buffers_weight (λ n. f n.id) (taken new) + maybe (λ (b : Buffer). f b.name.id) kept ≡ buffers_weight (λ n. f n.id) (taken old) + f buf.name.id
  took_one (Some k) old buf new t =
      let same : buffers_weight (λ n. f n.id) (taken new) ≡ buffers_weight (λ n. f n.id) (taken old) = ap (λ (v : TakeView Buffer). buffers_weight (λ n. f n.id) (taken v)) t.1 in
      let kept : f buf.name.id ≡ f k.name.id = ap (λ (b : Buffer). f b.name.id) t.0 in
      omega (arith, same, kept)
  took_one None old buf new t =
      let more : buffers_weight (λ n. f n.id) (taken new) ≡ buffers_weight (λ n. f n.id) (taken old) + f buf.name.id =
      ap (buffers_weight (λ n. f n.id)) t.1 ∙ sum_by_push (λ (b : Buffer). f b.name.id) (taken old) buf in
      omega (arith, more)

  accepts_keep : (w : WireNo) (group : GroupId) (frame : List ℕ) (id : BufId) (p q : PortView) → Accepts w group frame id p q → Conserves f p q
  accepts_keep w group frame id p q s =
      let on : items_weight (λ n. f n.id) (whole q) ≡ items_weight (λ n. f n.id) (whole p) + f s.buf.name.id =
      ap (items_weight (λ n. f n.id)) s.whole ∙ sum_by_push (item_weight (λ n. f n.id)) (whole p) (Frame w group (filled s.buf frame)) in
      let none : maybe (λ (b : Buffer). f b.name.id) q.kept ≡ 0 = ap (λ (x : PortView). maybe (λ (b : Buffer). f b.name.id) x.kept) s.rest in
      let took = took_one p.kept p.posts s.buf q.posts s.takes in
      omega (arith, on, none, took)

  gives_keep : (frame : List ℕ) (p q : PortView) → GivesBack frame p q → Conserves f p q
  gives_keep frame p q s =
      let on : items_weight (λ n. f n.id) (whole q) ≡ items_weight (λ n. f n.id) (whole p) = ap (items_weight (λ n. f n.id)) s.whole in
      let keeps : maybe (λ (b : Buffer). f b.name.id) q.kept ≡ f s.buf.name.id = ap (λ (x : PortView). maybe (λ (b : Buffer). f b.name.id) x.kept) s.rest in
      let took = took_one p.kept p.posts s.buf q.posts s.takes in
      omega (arith, on, keeps, took)

  full_keeps : (frame : List ℕ) (p q : PortView) → IsFull frame p q → Conserves f p q
  full_keeps frame p q full =
      elim full.cause [
        | inl b ↦ same_keeps p q b.whole (ap (λ (x : PortView). x.kept) b.rest) (ap (λ (x : PortView). x.posts) b.rest)
        | inr b ↦ gives_keep frame p q b
      ]

  pub answers_keep : (w : WireNo) (g : ℕ) (core : CoreId) (frame : List ℕ) (answer : Offer) (p q : PortView) → Answers w g core frame answer p q → Conserves f p q
  answers_keep w g core frame (TooLong len) p q a = puts_keep p q None refl a.2
  answers_keep w g core frame (RingFull ring group items) p q a = full_keeps frame p q a.4
  answers_keep w g core frame (NoBuffer ring group frames) p q a =
      same_keeps p q a.4.whole (ap (λ (x : PortView). x.kept) a.4.rest) (ap (λ (x : PortView). x.posts) a.4.rest)
  answers_keep w g core frame (Accepted ring group buf) p q a = accepts_keep w group frame buf p q a.3

pub carries_keep : (control : Control) (old new : List PortView) → Carries control old new → KeepsBuffers old new
carries_keep control old new carries = record {
  same = λ f r d lt. puts_keep f (get_or old r d) (get_or new r d) (item_on control r) (control_weighs f control r) (carries.rings r d lt);
}
