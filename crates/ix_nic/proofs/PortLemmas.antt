-- What a ring keeps over a call.
use Rattle.std.proofs.Common.{◌≡◌, ◌≤◌, ◌<◌, ◌+◌, ◌-◌, ◌^◌, ◌∷◌, ◌++◌, ℕ, List, [], length, min, Bool, None, Some, refl, ap, sym, subst, ◌∙◌, arith, append-nil, append_assoc, length-append}
use Rattle.std.specs.Prelude.{Option, Result, Ok, Err, OnErr}
use mathlib.Core.List.{IsPrefix}
use Rattle.ix_base.specs.declared.id.BufId.{BufId}
use Rattle.ix_base.specs.declared.id.GroupId.{GroupId}
use Rattle.ix_base.specs.declared.id.WireNo.{WireNo}
use Rattle.ix_mbuf.specs.Buffers.{Buffer}
use Rattle.ix_ring.specs.Views.{PutView, TakeView}
use Rattle.ix_ring.specs.Ends.{IsRing, SamePutEnd, put_list, places, spare, taken, known}
use Rattle.ix_stack.specs.declared.item.Item.{Item}
use Rattle.ix_stack.specs.declared.item.Item.TheVariants.{Frame}
use Rattle.ix_nic.specs.Ports.{PortView, PutsOn, whole, one_more, kept_count, TakesNext, HasRoom, IsBacked}
use Rattle.ix_nic.specs.Offers.{filled, Accepts, BothKeep}

length_prefix : {T : Type 0} (xs ys : List T) → IsPrefix xs ys → length xs ≤ length ys
length_prefix xs ys p = omega (arith, ap length p.1, length-append xs p.0)

-- ## What was put on a ring
pub puts_nothing : (u : PutView Item) → PutsOn u u
puts_nothing u = record { same = (refl, refl); items = []; put = sym (append-nil (put_list u)) }

pub puts_then : (u v w : PutView Item) → PutsOn u v → PutsOn v w → PutsOn u w
puts_then u v w p q = record {
  same = (q.same.0 ∙ p.same.0, q.same.1 ∙ p.same.1);
  items = p.items ++ q.items;
  put = q.put ∙ ap (λ (xs : List Item). xs ++ q.items) p.put ∙ append_assoc (put_list u) p.items q.items;
}

pub puts_one : (u v w : PutView Item) (item : Item) → PutsOn u v → SamePutEnd v w → put_list w ≡ put_list v ++ item ∷ [] → PutsOn u w
puts_one u v w item p same more = puts_then u v w p (record { same = same; items = item ∷ []; put = more })

pub puts_no_more : (u v w : PutView Item) → PutsOn u v → SamePutEnd v w → put_list w ≡ put_list v → PutsOn u w
puts_no_more u v w p same none = puts_then u v w p (record { same = same; items = []; put = none ∙ sym (append-nil (put_list v)) })

-- ## Room
pub room_after : (capacity n s s' items items' : ℕ) (ended : Bool) → HasRoom capacity n s items ended → s ≤ s' + 1 → items' ≡ min (items + 1) (2 ^ 32 - 1)
    → HasRoom capacity n s' items' ended
room_after capacity n s s' items items' ended h less more = record {
  reserved = h.reserved;
  few = h.few;
  free = λ still below.
      let lt : items < 2 ^ 32 - 1 = omega arith in
      let was = h.free still lt in
      omega arith;
}

pub room_kept : (capacity n s s' items : ℕ) (ended : Bool) → HasRoom capacity n s items ended → s ≤ s' → HasRoom capacity n s' items ended
room_kept capacity n s s' items ended h more = record {
  reserved = h.reserved;
  few = h.few;
  free = λ still below. let was = h.free still below in omega arith;
}

-- ## Buffers
pub taken_one : (old new : TakeView Buffer) (buf : Buffer) → IsPrefix (known old) (buf ∷ known new) → length (known old) ≤ length (known new) + 1
taken_one old new buf p = omega (arith, length_prefix (known old) (buf ∷ known new) p)

pub takes_one : (kept : Option Buffer) (old new : TakeView Buffer) (buf : Buffer) → TakesNext kept old buf new
    → length (known old) + kept_count kept ≤ length (known new) + 1
takes_one (Some k) old new buf t = omega (arith, ap (λ (v : TakeView Buffer). length (known v)) t.1)
takes_one None old new buf t = omega (arith, taken_one old new buf t.2)

pub backed_without : (known known' kept frames posted posted' : ℕ) → IsBacked known kept frames posted → known ≤ known' + 1 → posted' ≡ posted - 1
    → IsBacked known' kept frames posted'
backed_without known known' kept frames posted posted' b less is = record { backed = omega (arith, b.backed); fits = omega (arith, b.fits) }

pub backed_after : (known known' kept frames frames' posted : ℕ) → IsBacked known kept frames posted → known + kept ≤ known' + 1
    → frames' ≡ min (frames + 1) (2 ^ 32 - 1) → IsBacked known' 0 frames' posted
backed_after known known' kept frames frames' posted b less more = record { backed = omega (arith, b.backed, b.fits); fits = b.fits }

pub backed_again : (known known' kept frames posted : ℕ) → IsBacked known kept frames posted → known + kept ≤ known' + 1 → IsBacked known' 1 frames posted
backed_again known known' kept frames posted b less = record { backed = omega (arith, b.backed); fits = b.fits }

-- ## Answers
put_behind_none : (put put' behind : List Item) (item : Item) → behind ≡ [] → put' ≡ put ++ item ∷ [] → put' ++ behind ≡ (put ++ behind) ++ item ∷ []
put_behind_none put put' behind item none is =
    subst (λ (b : List Item). put' ++ b ≡ (put ++ b) ++ item ∷ []) (sym none)
    (append-nil put' ∙ is ∙ ap (λ (xs : List Item). xs ++ item ∷ []) (sym (append-nil put)))

same_port : (ring : PutView Item) (behind behind' : List Item) (posts : TakeView Buffer) (kept kept' : Option Buffer) (items items' frames frames' posted : ℕ) (ended : Bool)
    → behind ≡ behind' → kept ≡ kept' → items ≡ items' → frames ≡ frames'
    → ◌≡◌ {A = PortView} (record { ring = ring; behind = behind; posts = posts; kept = kept; items = items; frames = frames; posted = posted; ended = ended })
    (record { ring = ring; behind = behind'; posts = posts; kept = kept'; items = items'; frames = frames'; posted = posted; ended = ended })
same_port ring behind behind' posts kept kept' items items' frames frames' posted ended b k i f = cc

pub accepts_is : (w : WireNo) (group : GroupId) (frame : List ℕ) (id : BufId) (old : PortView) (ring : PutView Item) (posts : TakeView Buffer) (kept : Option Buffer)
    (items frames : ℕ) (buf full : Buffer) → old.behind ≡ [] → TakesNext old.kept old.posts buf posts → id ≡ full.name.id → full ≡ filled buf frame
    → SamePutEnd old.ring ring → put_list ring ≡ put_list old.ring ++ Frame w group full ∷ [] → kept ≡ None → items ≡ one_more old.items → frames ≡ one_more old.frames
    → Accepts w group frame id old (record old { ring = ring; posts = posts; kept = kept; items = items; frames = frames })
accepts_is w group frame id old ring posts kept items frames buf full none takes id_is full_is same put kept_is items_is frames_is = record {
  buf = buf;
  takes = takes;
  id_is = id_is ∙ ap (λ (b : Buffer). b.name.id) full_is;
  ring = record { same = same; items = Frame w group full ∷ []; put = put };
  whole = put_behind_none (put_list old.ring) (put_list ring) old.behind (Frame w group full) none put
      ∙ ap (λ (b : Buffer). whole old ++ Frame w group b ∷ []) full_is;
  rest = same_port ring old.behind [] posts kept None items (one_more old.items) frames (one_more old.frames) old.posted old.ended none kept_is items_is frames_is;
}

nothing_left : (xs ys : List Item) → xs ≡ xs ++ ys → ys ≡ []
nothing_left xs [] e = refl
nothing_left xs (y ∷ ys) e = absurd (omega (arith, ap length e, length-append xs (y ∷ ys)))

pub both_keep : {T E : Type 0} (r : Result T E) (old : PortView) (ring : PutView Item) (posts : TakeView Buffer) (items items' : TakeView Item) (posted posted' : PutView Buffer)
    → put_list old.ring ≡ taken items → put_list old.ring ≡ taken items ++ put_list ring → taken items' ≡ [] → IsRing ring items' → places ring ≡ places old.ring → spare old.ring ≤ spare ring
    → IsRing posted' posts → places posted' ≡ places posted
    → OnErr r ((put_list posted' ≡ put_list posted) × (taken posts ≡ taken old.posts) × (put_list posted' ≡ taken posts ++ known posts) × (spare posted ≤ spare posted'))
    → OnErr r (BothKeep old (record old { ring = ring; posts = posts }) items items' posted posted')
both_keep (Ok x) old ring posts items items' posted posted' empty left none pair as_many more pair' as_many' e = tt
both_keep (Err x) old ring posts items items' posted posted' empty left none pair as_many more pair' as_many' e = record {
  items_pair = pair;
  items_places = as_many;
  items_empty = nothing_left (taken items) (put_list ring) (sym empty ∙ left) ∙ sym none;
  items_spare = more;
  posts_pair = pair';
  posts_places = as_many';
  posts_put = e.0;
  posts_taken = e.1;
  posts_spare = e.3;
  rest = refl;
}
