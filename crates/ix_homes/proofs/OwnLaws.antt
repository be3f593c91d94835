-- The buffers that are posted are a core's own.
use Rattle.std.proofs.Common.{◌≡◌, ◌<◌, ℕ, Bool, List, [], ◌∷◌, ◌++◌, length, get_or, refl, sym, ap, subst, ◌∙◌, append_assoc, arith}
use Rattle.std.specs.Prelude.{All, Option, Some, None}
use Rattle.std.proofs.lemmas.List.{append_cancel_left}
use Rattle.std.proofs.lemmas.List.Elements.{All-append, All-cons, All-from_recursion, All-map, All-nil, All-same, recursion_from_All}
use Rattle.std.specs.List.{AllByRecursion}
use Rattle.ix_base.specs.declared.id.BufId.{BufId}
use Rattle.ix_lines.specs.declared.types.EntryLine.{EntryLine}
use Rattle.ix_mbuf.specs.Buffers.{Buffer}
use Rattle.ix_mbuf.specs.Pools.{Stock}
use Rattle.ix_ring.specs.Ends.{known, put_list, taken}
use Rattle.ix_stack.specs.declared.work.Work.{Work}
use Rattle.ix_nic.specs.Ports.{PortView}
use Rattle.ix_core.specs.declared.turning.Core.{Core}
use Rattle.ix_core.specs.Cores.{Ran}
use Rattle.ix_core.specs.Renewing.{IsResting}
use Rattle.ix_core.specs.Settling.{CoreSettled}
use Rattle.ix_feed.specs.Told.{BuffersAreFilled, RingUsed, ids_of, kept_id, used_on}
use Rattle.ix_homes.specs.Homes.{EpochsKeepOwn, IsIdOf, PortIsOwn, SettlesKeepOwn}

-- ## Fronts and ends of lists
front-by : {X : Type 0} (P : X → Type 0) (xs ys : List X) → AllByRecursion P (xs ++ ys) → AllByRecursion P xs
front-by P [] ys h = tt
front-by P (x ∷ xs) ys h = (h.0, front-by P xs ys h.1)

end-by : {X : Type 0} (P : X → Type 0) (xs ys : List X) → AllByRecursion P (xs ++ ys) → AllByRecursion P ys
end-by P [] ys h = h
end-by P (x ∷ xs) ys h = end-by P xs ys h.1

all-front : {X : Type 0} (P : X → Type 0) (xs ys : List X) → All P (xs ++ ys) → All P xs
all-front P xs ys h = All-from_recursion P xs (front-by P xs ys (recursion_from_All P (xs ++ ys) h))

all-end : {X : Type 0} (P : X → Type 0) (xs ys : List X) → All P (xs ++ ys) → All P ys
all-end P xs ys h = All-from_recursion P ys (end-by P xs ys (recursion_from_All P (xs ++ ys) h))

all-head : {X : Type 0} (P : X → Type 0) (x : X) → All P (x ∷ []) → P x
all-head P x h = (recursion_from_All P (x ∷ []) h).0

-- some element of a list that isn't empty
any_port : (ps : List PortView) (c : ℕ) → c < length ps → PortView
any_port [] c lt = absurd (omega (arith, lt))
any_port (p ∷ ps) c lt = p

-- ## Ids
all-ids : (pool : Stock) (bufs : List Buffer) → All (λ (b : Buffer). IsIdOf pool b.name.id) bufs → All (IsIdOf pool) (ids_of bufs)
all-ids pool bufs h = All-map (IsIdOf pool) (λ (b : Buffer). b.name.id) bufs h

kept-ids : (pool : Stock) (kept : Option Buffer) → ((b : Buffer) → kept ≡ Some b → IsIdOf pool b.name.id) → All (IsIdOf pool) (kept_id kept)
kept-ids pool None own = All-nil (IsIdOf pool)
kept-ids pool (Some b) own = All-cons (IsIdOf pool) b.name.id [] (own b refl) (All-nil (IsIdOf pool))

kept-of : (pool : Stock) (kept : Option Buffer) (b : Buffer) → kept ≡ Some b → All (IsIdOf pool) (kept_id kept) → IsIdOf pool b.name.id
kept-of pool kept b e h = all-head (IsIdOf pool) b.name.id (subst (λ (o : Option Buffer). All (IsIdOf pool) (kept_id o)) e h)

other-pool : (x y : Stock) (i : BufId) → y.home ≡ x.home → y.n ≡ x.n → IsIdOf x i → IsIdOf y i
other-pool x y i home n is = (is.0 ∙ sym home, subst (λ m. i.slot < m) (sym n) is.1)

all-other : {X : Type 0} (f : X → BufId) (x y : Stock) (xs : List X) → y.home ≡ x.home → y.n ≡ x.n → All (λ z. IsIdOf x (f z)) xs → All (λ z. IsIdOf y (f z)) xs
all-other f x y xs home n h = λ k d lt. other-pool x y (f (get_or xs k d)) home n (h k d lt)

-- ## An epoch, on one ring
module _ {U E : Type 0} where
  -- what the card knows to be posted: what it knew and what was posted since, without what it took
  known-now : (p q : PortView) (x y : Core U E) (bufs posts : List Buffer) → IsResting p x → IsResting q y → put_list y.posted ≡ put_list x.posted ++ posts
      → taken q.posts ≡ taken p.posts ++ bufs → known p.posts ++ posts ≡ bufs ++ known q.posts
  known-now p q x y bufs posts was is put took =
      append_cancel_left (taken p.posts) (known p.posts ++ posts) (bufs ++ known q.posts)
      (sym (append_assoc (taken p.posts) (known p.posts) posts) ∙ ap (λ l. l ++ posts) (sym was.met) ∙ sym put ∙ is.met ∙ ap (λ l. l ++ known q.posts) took
      ∙ append_assoc (taken p.posts) bufs (known q.posts))

  pub record RingKeepsOwn (q : PortView) (x y : Core U E) (used : List BufId) : Type 0 where
    pub own : PortIsOwn q y
    pub frames : All (IsIdOf x.pool) used

  ring-keeps-own : (told : List EntryLine) (r : ℕ) (p q : PortView) (x y : Core U E) (posts : List Buffer) → IsResting p x → IsResting q y
      → put_list y.posted ≡ put_list x.posted ++ posts → All (λ (b : Buffer). IsIdOf x.pool b.name.id) posts → y.pool.home ≡ x.pool.home → y.pool.n ≡ x.pool.n
      → RingUsed (used_on r told) (length told) p q → PortIsOwn p x → RingKeepsOwn q x y (used_on r told)
  ring-keeps-own told r p q x y posts was is put own home n used port =
      let both = All-append (λ (b : Buffer). IsIdOf x.pool b.name.id) (known p.posts) posts port.posted own in
      let now = All-same (λ (b : Buffer). IsIdOf x.pool b.name.id) (used.bufs ++ known q.posts) (known p.posts ++ posts) (sym (known-now p q x y used.bufs posts was is put used.took)) both in
      let ids = All-append (IsIdOf x.pool) (kept_id p.kept) (ids_of used.bufs) (kept-ids x.pool p.kept port.kept)
      (all-ids x.pool used.bufs (all-front (λ (b : Buffer). IsIdOf x.pool b.name.id) used.bufs (known q.posts) now)) in
      let told_ids = All-same (IsIdOf x.pool) (used_on r told ++ kept_id q.kept) (kept_id p.kept ++ ids_of used.bufs) (sym used.in_order) ids in
      record {
        own = record {
          posted = all-other (λ (b : Buffer). b.name.id) x.pool y.pool (known q.posts) home n (all-end (λ (b : Buffer). IsIdOf x.pool b.name.id) used.bufs (known q.posts) now);
          kept = λ b e. other-pool x.pool y.pool b.name.id home n (kept-of x.pool q.kept b e (all-end (IsIdOf x.pool) (used_on r told) (kept_id q.kept) told_ids));
        };
        frames = all-front (IsIdOf x.pool) (used_on r told) (kept_id q.kept) told_ids;
      }

-- ## The laws
module _ {U E : Type 0} (counted : Work → Bool) (name : Work → ℕ) (stepped : U → List (ℕ × ℕ)) (advanced : U → E → ℕ → List Work → U → Type 0) (drained : U → List Buffer → U → Type 0) where
  pub epochs-keep-own : BuffersAreFilled → EpochsKeepOwn U E counted name stepped advanced drained
  epochs-keep-own filled env feed feed' cores cores' was is own ran = record {
    own = λ c p d lt. (kept c p d (subst (λ n. c < n) ran.cores.count lt)).own;
    frames = λ c d lt. (kept c (get_or feed.card.ports c (any_port feed.card.ports c (subst (λ n. c < n) (sym was.order.count) lt))) d lt).frames;
  } where
    kept : (c : ℕ) (p : PortView) (d : Core U E) → c < length cores → RingKeepsOwn (get_or feed'.card.ports c p) (get_or cores c d) (get_or cores' c d) (used_on c ran.feed.told)
    kept c p d lt =
        let there : c < length cores' = subst (λ n. c < n) (sym ran.cores.count) lt in
        let ran_core : Ran counted name stepped advanced drained env (get_or cores c d) (get_or cores' c d) = (ran.cores.each c d lt).ran (ran.over.rest c d there).found in
        ring-keeps-own ran.feed.told c (get_or feed.card.ports c p) (get_or feed'.card.ports c p) (get_or cores c d) (get_or cores' c d) ran_core.posts
        (was.ports c p d lt) (is.ports c p d there) ran_core.put ran_core.own ran_core.home ran_core.number
        (filled feed feed' ran.feed c p (subst (λ n. c < n) (sym was.order.count) lt)) (own c p d lt)

module _ {U E : Type 0} where
  port-settles : (p q : PortView) (x y : Core U E) → CoreSettled p q x y → PortIsOwn p x → PortIsOwn q y
  port-settles p q x y so own = record {
    posted = all-other (λ (b : Buffer). b.name.id) x.pool y.pool (known q.posts) so.home so.slots
        (All-same (λ (b : Buffer). IsIdOf x.pool b.name.id) (known q.posts) (known p.posts ++ so.filled) so.all (All-append (λ (b : Buffer). IsIdOf x.pool b.name.id) (known p.posts) so.filled own.posted so.own));
    kept = λ b e. other-pool x.pool y.pool b.name.id so.home so.slots (own.kept b (sym (ap (λ (r : PortView). r.kept) so.port_rest) ∙ e));
  }

  pub settles-keep-own : SettlesKeepOwn U E
  settles-keep-own owners report card card' cores cores' len own settles c p d lt =
      let here : c < length cores = subst (λ n. c < n) settles.count lt in
      port-settles (get_or card.ports c p) (get_or card'.ports c p) (get_or cores c d) (get_or cores' c d) (settles.each c p d here) (own c p d here)
