-- One ring, over one entry: what was put on it, how that was counted, and which buffers were used.
use Rattle.std.proofs.Common.{◌≡◌, ◌≢◌, ◌<◌, ◌+◌, ℕ, List, [], ◌∷◌, ◌++◌, map, Bool, true, false, refl, ap, sym, subst, ◌∙◌, append-nil, inl, inr, None, Some, arith}
use Rattle.std.proofs.lemmas.Bool.Decides.{nat_tests}
use Rattle.std.proofs.lemmas.List.{append_cancel_left}
use Rattle.std.proofs.lemmas.List.Sums.{sum_by-append, sum_by-cons}
use Rattle.std.specs.Prelude.{◌==◌, ◌^◌, if◌then◌else◌, count_by, Option, option_to_list, slice_get}
use Rattle.std.specs.List.{AllByRecursion}
use Rattle.ix_base.specs.declared.id.BufId.{BufId}
use Rattle.ix_base.specs.declared.id.CoreId.{CoreId}
use Rattle.ix_base.specs.declared.id.GroupId.{GroupId}
use Rattle.ix_base.specs.declared.id.WireNo.{WireNo}
use Rattle.ix_lines.specs.declared.types.EntryLine.{EntryLine}
use Rattle.ix_lines.specs.declared.types.EntryLine.TheVariants as told
use Rattle.ix_lines.specs.declared.types.Fate.{Fate}
use Rattle.ix_lines.specs.declared.types.Fate.TheVariants as fates
use Rattle.ix_mbuf.specs.Buffers.{Buffer, buffers_weight, next_use}
use Rattle.ix_mbuf.specs.Owners.{maybe, same_id, times, weigh}
use Rattle.ix_mbuf.specs.declared.name.Name.{Name}
use Rattle.ix_nic.specs.declared.offer.Offer.{Offer}
use Rattle.ix_nic.specs.declared.offer.Offer.TheVariants.{TooLong, RingFull, NoBuffer, Accepted}
use Rattle.ix_nic.specs.Offers.{Accepts, Answers, GivesBack, IsFull, filled}
use Rattle.ix_nic.specs.Ports.{PortView, Puts, TakesNext, capped, counted, one_more, whole}
use Rattle.ix_nic.specs.Words.{word}
use Rattle.ix_order.specs.Wire as order
use Rattle.ix_ring.specs.Views.{TakeView}
use Rattle.ix_ring.specs.Ends.{taken}
use Rattle.ix_stack.specs.declared.item.Item.{Item}
use Rattle.ix_stack.specs.declared.item.Item.TheVariants as items
use Rattle.ix_stack.specs.Items.{item_weight, items_weight}
use Rattle.ix_wire.specs.declared.entry.Entry.{Entry}
use Rattle.ix_wire.specs.declared.entry.Entry.TheVariants as wire
use Rattle.ix_feed.specs.Feeding.{end_on, fate_of, time_on}
use Rattle.ix_feed.specs.Told.{RingUsed, ids_of, is_counted, is_work, kept_id, used_by}

-- ## What an item is told by, as RingIsTold says it of all
pub record FrameToldBy (r : ℕ) (frames : List (List ℕ)) (e : Entry) (l : EntryLine) (name : Name) (group : GroupId) (buf : Buffer) : Type 0 where
  pub rec : ℕ
  pub entry : e ≡ wire.Frame rec
  pub at : ℕ
  pub line : l ≡ told.Frame rec at group (record { 0 = r }) (fates.Buf buf.name.id)
  pub bytes : slice_get frames rec ≡ Some buf.bytes
  pub named : buf.name ≡ name

abbrev pub ToldBy : ℕ → List (List ℕ) → ℕ → Entry → EntryLine → Name → Item → Type 0
ToldBy r frames w e l name (items.Frame v group buf) = (v.0 ≡ w) × FrameToldBy r frames e l name group buf
ToldBy r frames w e l name (items.Time v t) = (v.0 ≡ w) × (e ≡ wire.Time t)
ToldBy r frames w e l name (items.Tag group) = Unit {0}
ToldBy r frames w e l name (items.Cut group to) = Unit {0}
ToldBy r frames w e l name (items.Start group tenure) = Unit {0}
ToldBy r frames w e l name items.End = Unit {0}

-- ## What is counted
pub record PutIsCounted (put : List order.Item) (p q : PortView) : Type 0 where
  pub items : p.items < 2 ^ 32 → q.items ≡ capped (p.items + count_by is_counted put)
  pub frames : p.frames < 2 ^ 32 → q.frames ≡ capped (p.frames + count_by is_work put)
  pub posted : q.posted ≡ p.posted

pub record PortStep (r : ℕ) (frames : List (List ℕ)) (w : ℕ) (e : Entry) (l : EntryLine) (name : Name) (p q : PortView) : Type 0 where
  pub put : List Item
  pub more : whole q ≡ whole p ++ put
  pub told : AllByRecursion (ToldBy r frames w e l name) put
  pub counts : PutIsCounted (map word put) p q
  pub used : RingUsed (used_by r l) 1 p q

-- ## Counts
still : (n : ℕ) → n < 2 ^ 32 → n ≡ capped (n + 0)
still n lt = omega (arith, lt)

count_of : (f : order.Item → Bool) (x : order.Item) → count_by f (x ∷ []) ≡ (if f x then 1 else 0)
count_of f x = omega (arith, sum_by-cons (λ (y : order.Item). if f y then 1 else 0) x [])

item_counts : (item : Option Item) (n : ℕ) → n < 2 ^ 32 → counted item n ≡ capped (n + count_by is_counted (map word (option_to_list item)))
item_counts None n lt = still n lt
item_counts (Some (items.Frame w group buf)) n lt = ap (λ k. capped (n + k)) (sym (count_of is_counted (word (items.Frame w group buf))))
item_counts (Some (items.Tag group)) n lt = ap (λ k. capped (n + k)) (sym (count_of is_counted (word (items.Tag group))))
item_counts (Some (items.Cut group to)) n lt = ap (λ k. capped (n + k)) (sym (count_of is_counted (word (items.Cut group to))))
item_counts (Some (items.Start group tenure)) n lt = ap (λ k. capped (n + k)) (sym (count_of is_counted (word (items.Start group tenure))))
item_counts (Some (items.Time w t)) n lt = ap (λ k. capped (n + k)) (sym (count_of is_counted (word (items.Time w t))))
item_counts (Some items.End) n lt = still n lt ∙ ap (λ k. capped (n + k)) (sym (count_of is_counted (word items.End)))

-- items without a buffer, of which no law on frames speaks
pub record IsControl (r : ℕ) (frames : List (List ℕ)) (w : ℕ) (e : Entry) (l : EntryLine) (name : Name) (item : Option Item) : Type 0 where
  pub told : AllByRecursion (ToldBy r frames w e l name) (option_to_list item)
  pub no_frame : count_by is_work (map word (option_to_list item)) ≡ 0
  pub no_buffer : (f : Name → ℕ) → items_weight f (option_to_list item) ≡ 0

none_used : (p q : PortView) (put : List Item) → whole q ≡ whole p ++ put → ((f : Name → ℕ) → items_weight f put ≡ 0) → q.kept ≡ p.kept → q.posts ≡ p.posts
    → RingUsed [] 1 p q
none_used p q put more none kept posts = record {
  bufs = [];
  took = ap (λ (v : TakeView Buffer). taken v) posts ∙ sym (append-nil (taken p.posts));
  in_order = append-nil (kept_id p.kept) ∙ ap kept_id (sym kept);
  fills = [];
  few = omega arith;
  among = λ i. omega arith;
  weight = λ f.
      let on : items_weight f (whole q) ≡ items_weight f (whole p) + items_weight f put = ap (items_weight f) more ∙ sum_by-append (item_weight f) (whole p) put in
      let keeps : maybe (λ (b : Buffer). f b.name) q.kept ≡ maybe (λ (b : Buffer). f b.name) p.kept = ap (maybe (λ (b : Buffer). f b.name)) kept in
      omega (arith, on, keeps, none f);
}

pub control_step : (r : ℕ) (frames : List (List ℕ)) (w : ℕ) (e : Entry) (l : EntryLine) (name : Name) (item : Option Item) (p q : PortView) → IsControl r frames w e l name item
    → used_by r l ≡ [] → Puts item p q → PortStep r frames w e l name p q
control_step r frames w e l name item p q is unused puts = record {
  put = option_to_list item;
  more = puts.whole;
  told = is.told;
  counts = record {
    items = λ lt. ap (λ (v : PortView). v.items) puts.rest ∙ item_counts item p.items lt;
    frames = λ lt. ap (λ (v : PortView). v.frames) puts.rest ∙ still p.frames lt ∙ ap (λ n. capped (p.frames + n)) (sym is.no_frame);
    posted = ap (λ (v : PortView). v.posted) puts.rest;
  };
  used = subst (λ (us : List BufId). RingUsed us 1 p q) (sym unused)
      (none_used p q (option_to_list item) puts.whole is.no_buffer (ap (λ (v : PortView). v.kept) puts.rest) (ap (λ (v : PortView). v.posts) puts.rest));
}

-- nothing was put
pub nothing_step : (r : ℕ) (frames : List (List ℕ)) (w : ℕ) (e : Entry) (l : EntryLine) (name : Name) (p q : PortView) → whole q ≡ whole p → q.items ≡ p.items → q.frames ≡ p.frames
    → q.posted ≡ p.posted → RingUsed (used_by r l) 1 p q → PortStep r frames w e l name p q
nothing_step r frames w e l name p q same items frames_same posted used = record {
  put = [];
  more = same ∙ sym (append-nil (whole p));
  told = tt;
  counts = record {
    items = λ lt. items ∙ still p.items lt;
    frames = λ lt. frames_same ∙ still p.frames lt;
    posted = posted;
  };
  used = used;
}

-- ## Control items
pub no_item : (r : ℕ) (frames : List (List ℕ)) (w : ℕ) (e : Entry) (l : EntryLine) (name : Name) → IsControl r frames w e l name None
no_item r frames w e l name = record { told = tt; no_frame = refl; no_buffer = λ f. refl }

pub is_tag : (r : ℕ) (frames : List (List ℕ)) (w : ℕ) (e : Entry) (l : EntryLine) (name : Name) (group : GroupId) (b : Bool)
    → IsControl r frames w e l name (if b then Some (items.Tag group) else None)
is_tag r frames w e l name group true = record { told = (tt, tt); no_frame = refl; no_buffer = λ f. refl }
is_tag r frames w e l name group false = no_item r frames w e l name

pub is_turn : (r : ℕ) (frames : List (List ℕ)) (w : ℕ) (e : Entry) (l : EntryLine) (name : Name) (group : GroupId) (to : CoreId) (tenure : ℕ) (a b : Bool)
    → IsControl r frames w e l name (if a then Some (items.Cut group to) else if b then Some (items.Start group tenure) else None)
is_turn r frames w e l name group to tenure true b = record { told = (tt, tt); no_frame = refl; no_buffer = λ f. refl }
is_turn r frames w e l name group to tenure false true = record { told = (tt, tt); no_frame = refl; no_buffer = λ f. refl }
is_turn r frames w e l name group to tenure false false = no_item r frames w e l name

pub is_time : (r : ℕ) (frames : List (List ℕ)) (w t : ℕ) (l : EntryLine) (name : Name) → IsControl r frames w (wire.Time t) l name (time_on w t r)
is_time r frames w t l name = record { told = ((refl, refl), tt); no_frame = refl; no_buffer = λ f. refl }

pub is_end : (r : ℕ) (frames : List (List ℕ)) (w : ℕ) (e : Entry) (l : EntryLine) (name : Name) → IsControl r frames w e l name (end_on r)
is_end r frames w e l name = record { told = (tt, tt); no_frame = refl; no_buffer = λ f. refl }

-- ## Frames
-- the buffers that are taken, with the one that was kept, are the one that is filled
kept_list : Option Buffer → List Buffer
kept_list None = []
kept_list (Some b) = b ∷ []

record Takes (kept : Option Buffer) (old new : TakeView Buffer) (buf : Buffer) : Type 0 where
  bufs : List Buffer
  took : taken new ≡ taken old ++ bufs
  ids : kept_id kept ++ ids_of bufs ≡ buf.name.id ∷ []
  weight : (f : Name → ℕ) → maybe (λ (b : Buffer). f b.name) kept + buffers_weight f bufs ≡ f buf.name

takes_is : (kept : Option Buffer) (old new : TakeView Buffer) (buf : Buffer) → TakesNext kept old buf new → Takes kept old new buf
takes_is None old new buf t = record { bufs = buf ∷ []; took = t.1; ids = refl; weight = λ f. omega (arith, sum_by-cons (λ (b : Buffer). f b.name) buf []) }
takes_is (Some b) old new buf t = record {
  bufs = [];
  took = ap (λ (v : TakeView Buffer). taken v) t.1 ∙ sym (append-nil (taken old));
  ids = ap (λ (z : Buffer). z.name.id ∷ []) (sym t.0);
  weight = λ f. let same : f buf.name ≡ f b.name = ap (λ (z : Buffer). f z.name) t.0 in omega (arith, same);
}

one_time : (i : BufId) (n : Name) → times i (n ∷ []) ≡ (if same_id i n.id then 1 else 0)
one_time i n = omega (arith, sum_by-cons (λ (m : Name). if same_id i m.id then 1 else 0) n [])

one_used : (i j : BufId) → count_by (same_id i) (j ∷ []) ≡ (if same_id i j then 1 else 0)
one_used i j = omega (arith, sum_by-cons (λ (k : BufId). if same_id i k then 1 else 0) j [])

weigh_one : (f : Name → ℕ) (n : Name) → weigh f (n ∷ []) ≡ f n
weigh_one f n = omega (arith, sum_by-cons f n [])

accepts_used : (w : WireNo) (group : GroupId) (frame : List ℕ) (id : BufId) (p q : PortView) → Accepts w group frame id p q → RingUsed (id ∷ []) 1 p q
accepts_used w group frame id p q a =
    let t = takes_is p.kept p.posts q.posts a.buf a.takes in
    let kept : q.kept ≡ None = ap (λ (v : PortView). v.kept) a.rest in
    record {
      bufs = t.bufs;
      took = t.took;
      in_order = t.ids ∙ ap (λ (i : BufId). i ∷ []) (sym a.id_is) ∙ ap (λ (o : Option Buffer). id ∷ kept_id o) (sym kept);
      fills = a.buf.name ∷ [];
      few = omega arith;
      among = λ i.
          let same : count_by (same_id i) (id ∷ []) ≡ times i (a.buf.name ∷ []) =
          one_used i id ∙ ap (λ j. if same_id i j then 1 else 0) a.id_is ∙ sym (one_time i a.buf.name) in
          omega (arith, same);
      weight = λ f.
          let on : items_weight f (whole q) ≡ items_weight f (whole p) + items_weight f (items.Frame w group (filled a.buf frame) ∷ []) =
          ap (items_weight f) a.whole ∙ sum_by-append (item_weight f) (whole p) (items.Frame w group (filled a.buf frame) ∷ []) in
          let one : items_weight f (items.Frame w group (filled a.buf frame) ∷ []) ≡ f (next_use a.buf.name) =
          omega (arith, sum_by-cons (item_weight f) (items.Frame w group (filled a.buf frame)) []) in
          let none : maybe (λ (b : Buffer). f b.name) q.kept ≡ 0 = ap (maybe (λ (b : Buffer). f b.name)) kept in
          omega (arith, on, one, none, t.weight f, weigh_one f a.buf.name, weigh_one f (next_use a.buf.name));
    }

gives_back_used : (frame : List ℕ) (p q : PortView) → GivesBack frame p q → RingUsed [] 1 p q
gives_back_used frame p q g =
    let t = takes_is p.kept p.posts q.posts g.buf g.takes in
    let kept : q.kept ≡ Some (filled g.buf frame) = ap (λ (v : PortView). v.kept) g.rest in
    record {
      bufs = t.bufs;
      took = t.took;
      in_order = t.ids ∙ ap kept_id (sym kept);
      fills = g.buf.name ∷ [];
      few = omega arith;
      among = λ i. omega arith;
      weight = λ f.
          let on : items_weight f (whole q) ≡ items_weight f (whole p) = ap (items_weight f) g.whole in
          let one : maybe (λ (b : Buffer). f b.name) q.kept ≡ f (next_use g.buf.name) = ap (maybe (λ (b : Buffer). f b.name)) kept in
          omega (arith, on, one, t.weight f, weigh_one f g.buf.name, weigh_one f (next_use g.buf.name));
    }

same_used : (p q : PortView) → whole q ≡ whole p → q.kept ≡ p.kept → q.posts ≡ p.posts → RingUsed [] 1 p q
same_used p q same kept posts = none_used p q [] (same ∙ sym (append-nil (whole p))) (λ f. refl) kept posts

full_used : (frame : List ℕ) (p q : PortView) → IsFull frame p q → RingUsed [] 1 p q
full_used frame p q full =
    elim full.cause [
      | inl s ↦ same_used p q s.whole (ap (λ (v : PortView). v.kept) s.rest) (ap (λ (v : PortView). v.posts) s.rest)
      | inr g ↦ gives_back_used frame p q g
    ]

full_step : (r : ℕ) (frames : List (List ℕ)) (w : ℕ) (e : Entry) (l : EntryLine) (name : Name) (frame : List ℕ) (p q : PortView) → used_by r l ≡ [] → IsFull frame p q
    → PortStep r frames w e l name p q
full_step r frames w e l name frame p q unused full =
    let used = subst (λ (us : List BufId). RingUsed us 1 p q) (sym unused) (full_used frame p q full) in
    elim full.cause [
      | inl s ↦
          nothing_step r frames w e l name p q s.whole (ap (λ (v : PortView). v.items) s.rest) (ap (λ (v : PortView). v.frames) s.rest) (ap (λ (v : PortView). v.posted) s.rest) used
      | inr g ↦
          nothing_step r frames w e l name p q g.whole (ap (λ (v : PortView). v.items) g.rest) (ap (λ (v : PortView). v.frames) g.rest) (ap (λ (v : PortView). v.posted) g.rest) used
    ]

one_counts : (f : order.Item → Bool) (x : order.Item) (n : ℕ) → f x ≡ true → one_more n ≡ capped (n + count_by f (x ∷ []))
one_counts f x n is = ap (λ k. capped (n + k)) (sym (count_of f x ∙ ap (λ (b : Bool). if b then 1 else 0) is))

used_at : (r : ℕ) (ring : CoreId) (buf : BufId) → ring.0 ≡ r → (if ring.0 == r then buf ∷ [] else []) ≡ buf ∷ []
used_at r ring buf is = let same : (ring.0 == r) ≡ true = grind (arith, nat_tests) in ap (λ (b : Bool). if b then buf ∷ [] else []) same

numbered_core : (r : ℕ) (ring : CoreId) → ring.0 ≡ r → ring ≡ record { 0 = r }
numbered_core r ring is = ap (λ n. record { 0 = n }) is

-- ## The name of a frame's buffer
abbrev pub no_name : Name
no_name = record { id = record { home = record { 0 = 0 }; slot = 0 }; uses = 0 }

abbrev item_name : Item → Name
item_name (items.Frame w group buf) = buf.name
item_name (items.Tag group) = no_name
item_name (items.Cut group to) = no_name
item_name (items.Start group tenure) = no_name
item_name (items.Time w t) = no_name
item_name items.End = no_name

abbrev first_name : List Item → Name
first_name [] = no_name
first_name (x ∷ xs) = item_name x

-- An accepted frame is given to its ring in one buffer.
pub accepted_once : (w : WireNo) (group group' : GroupId) (frame : List ℕ) (id id' : BufId) (p q p' q' : PortView) → p' ≡ p → q' ≡ q
    → (a : Accepts w group frame id p q) → (b : Accepts w group' frame id' p' q') → next_use a.buf.name ≡ next_use b.buf.name
accepted_once w group group' frame id id' p q p' q' same_p same_q a b =
    ap first_name
    (append_cancel_left (whole p) (items.Frame w group (filled a.buf frame) ∷ []) (items.Frame w group' (filled b.buf frame) ∷ [])
    (sym a.whole ∙ ap whole (sym same_q) ∙ b.whole ∙ ap (λ (v : PortView). whole v ++ items.Frame w group' (filled b.buf frame) ∷ []) same_p))

-- the buffer of a frame that was accepted has this name
abbrev pub IsNamed : ℕ → List ℕ → Offer → Name → PortView → PortView → Type 0
IsNamed w frame (TooLong len) name p q = Unit {0}
IsNamed w frame (RingFull ring group n) name p q = Unit {0}
IsNamed w frame (NoBuffer ring group n) name p q = Unit {0}
IsNamed w frame (Accepted ring group id) name p q = (a : Accepts (record { 0 = w }) group frame id p q) → next_use a.buf.name ≡ name

-- the ring of a frame's flow group
pub answer_step : (r : ℕ) (frames : List (List ℕ)) (w clock rec : ℕ) (bytes : List ℕ) (group : GroupId) (g : ℕ) (core : CoreId) (answer : Offer) (l : EntryLine) (name : Name) (p q : PortView)
    → IsNamed w bytes answer name p q → core.0 ≡ r → group.0 ≡ g → slice_get frames rec ≡ Some bytes → l ≡ told.Frame rec clock group core (fate_of answer)
    → Answers (record { 0 = w }) g core bytes answer p q → PortStep r frames w (wire.Frame rec) l name p q
answer_step r frames w clock rec bytes group g core (TooLong len) l name p q named at group_is is line a =
    control_step r frames w (wire.Frame rec) l name None p q (no_item r frames w (wire.Frame rec) l name) (ap (used_by r) line) a.2
answer_step r frames w clock rec bytes group g core (RingFull ring group' n) l name p q named at group_is is line a =
    full_step r frames w (wire.Frame rec) l name bytes p q (ap (used_by r) line) a.4
answer_step r frames w clock rec bytes group g core (NoBuffer ring group' n) l name p q named at group_is is line a =
    nothing_step r frames w (wire.Frame rec) l name p q a.4.whole (ap (λ (v : PortView). v.items) a.4.rest) (ap (λ (v : PortView). v.frames) a.4.rest)
    (ap (λ (v : PortView). v.posted) a.4.rest)
    (subst (λ (us : List BufId). RingUsed us 1 p q) (sym (ap (used_by r) line))
    (same_used p q a.4.whole (ap (λ (v : PortView). v.kept) a.4.rest) (ap (λ (v : PortView). v.posts) a.4.rest)))
answer_step r frames w clock rec bytes group g core (Accepted ring group' id) l name p q named at group_is is line a =
    let same : group' ≡ group = ap (λ n. record { 0 = n }) (a.1 ∙ sym group_is) in
    record {
      put = items.Frame (record { 0 = w }) group' (filled a.3.buf bytes) ∷ [];
      more = a.3.whole;
      told = (
        (
          refl,
          record {
            rec = rec;
            entry = refl;
            at = clock;
            line =
                line ∙ ap (λ (k : GroupId). told.Frame rec clock k core (fates.Buf id)) (sym same)
                ∙ ap (λ (c : CoreId). told.Frame rec clock group' c (fates.Buf id)) (numbered_core r core at)
                ∙ ap (λ (i : BufId). told.Frame rec clock group' (record { 0 = r }) (fates.Buf i)) a.3.id_is;
            bytes = is;
            named = named a.3;
          },
        ),
        tt,
      );
      counts = record {
        items = λ lt. ap (λ (v : PortView). v.items) a.3.rest ∙ one_counts is_counted (order.work group'.0 w) p.items refl;
        frames = λ lt. ap (λ (v : PortView). v.frames) a.3.rest ∙ one_counts is_work (order.work group'.0 w) p.frames refl;
        posted = ap (λ (v : PortView). v.posted) a.3.rest;
      };
      used = subst (λ (us : List BufId). RingUsed us 1 p q) (sym (ap (used_by r) line ∙ used_at r core id at)) (accepts_used (record { 0 = w }) group' bytes id p q a.3);
    }

-- any other ring
other_used : (r rec at : ℕ) (group : GroupId) (core : CoreId) (fate : Fate) → r ≢ core.0 → used_by r (told.Frame rec at group core fate) ≡ []
other_used r rec at group core (fates.Buf buf) other =
    let differ : (core.0 == r) ≡ false = grind (arith, nat_tests) in ap (λ (b : Bool). if b then buf ∷ [] else []) differ
other_used r rec at group core (fates.RingFull n) other = refl
other_used r rec at group core (fates.NoBuffer n) other = refl
other_used r rec at group core (fates.TooLong n) other = refl

pub other_step : (r : ℕ) (frames : List (List ℕ)) (w clock rec : ℕ) (group : GroupId) (core : CoreId) (fate : Fate) (l : EntryLine) (name : Name) (p q : PortView)
    → r ≢ core.0 → l ≡ told.Frame rec clock group core fate → Puts None p q → PortStep r frames w (wire.Frame rec) l name p q
other_step r frames w clock rec group core fate l name p q other line puts =
    control_step r frames w (wire.Frame rec) l name None p q (no_item r frames w (wire.Frame rec) l name)
    (ap (used_by r) line ∙ other_used r rec clock group core fate other) puts
