-- Turns conserve every weight of buffers.
use Rattle.std.proofs.Common.{◌≡◌, ◌<◌, ◌≤◌, ◌+◌, ℕ, zero, suc, Bool, true, false, List, [], ◌∷◌, ◌++◌, map, length, get_or, sum_by, refl, sym, ap, ◌∙◌, arith}
use Rattle.std.specs.Prelude.{◌==◌, ◌&&◌, ◌||◌, if◌then◌else◌, not}
use Rattle.std.proofs.Common.{inl, inr}
use Rattle.std.proofs.lemmas.Bool.{cases_lt}
use Rattle.std.proofs.lemmas.Bool.Decides.{nat_tests}
use Rattle.std.proofs.lemmas.List.{map-append}
use Rattle.std.proofs.lemmas.List.Sums.{sum_by-cons, sum_by-append}
use Rattle.ix_mbuf.specs.declared.name.Name.{Name}
use Rattle.ix_mbuf.specs.Buffers.{Buffer, buffers_weight}
use Rattle.ix_ring.specs.Ends.{put_list, taken}
use Rattle.ix_desk.specs.declared.unit.Shipment.{Shipment}
use Rattle.ix_desk.specs.Pieces.{joined}
use Rattle.ix_stack.specs.declared.work.Work.{Work}
use Rattle.ix_stack.specs.Works.{works_weight}
use Rattle.ix_stack.specs.Items.{item_weight, items_weight}
use Rattle.ix_history.specs.Events.{Parcel}
use Rattle.ix_core.specs.declared.link.Link.{Link}
use Rattle.ix_core.specs.declared.message.Message.{Message}
use Rattle.ix_core.specs.declared.message.Message.TheVariants.{Ship, Home}
use Rattle.ix_core.specs.declared.turning.Core.{Core}
use Rattle.ix_core.specs.Landing.{home_in, parcel_of, ship_in}
use Rattle.ix_core.specs.Links.{LinkRan, LinksRan, all_of, buffer_left, buffer_to, cores_of, from_place, homes_weight, is_first, is_known, parcel_lost, parcel_to}
use Rattle.ix_core.specs.Cores.{Ran}
use Rattle.ix_core.specs.Runs.{joined-append}
use Rattle.ix_core.specs.Weights.{Conserves, link_put, link_taken, link_weight, message_weight, messages_weight, parcel_weight, parcels_weight, ships_weight}
use Rattle.ix_core.proofs.Weighs.{run-groups, parcels_in, run-weighs}

-- ## Sums over places
-- h 0 + h 1 + .. + h (n - 1)
abbrev tally : (ℕ → ℕ) → ℕ → ℕ
tally h zero = 0
tally h (suc n) = h 0 + tally (λ i. h (suc i)) n

tally-zero : (h : ℕ → ℕ) (n : ℕ) → ((i : ℕ) → i < n → h i ≡ 0) → tally h n ≡ 0
tally-zero h zero none = refl
tally-zero h (suc n) none = omega (arith, none 0 (omega arith), tally-zero (λ i. h (suc i)) n (λ i lt. none (suc i) (omega arith)))

tally-add : (h k m : ℕ → ℕ) (n : ℕ) → ((i : ℕ) → i < n → h i ≡ k i + m i) → tally h n ≡ tally k n + tally m n
tally-add h k m zero each = refl
tally-add h k m (suc n) each =
    omega (arith, each 0 (omega arith), tally-add (λ i. h (suc i)) (λ i. k (suc i)) (λ i. m (suc i)) n (λ i lt. each (suc i) (omega arith)))

tally-same : (h k : ℕ → ℕ) (n : ℕ) → ((i : ℕ) → i < n → h i ≡ k i) → tally h n ≡ tally k n
tally-same h k zero each = refl
tally-same h k (suc n) each =
    omega (arith, each 0 (omega arith), tally-same (λ i. h (suc i)) (λ i. k (suc i)) n (λ i lt. each (suc i) (omega arith)))

-- ## What is spread over places
-- one thing of this weight, where a test names its place
abbrev when : Bool → ℕ → ℕ
when b n = if b then n else 0

when-joined : {X : Type 0} (w : X → ℕ) (b : Bool) (x : X) (xs : List X) → sum_by w ((if b then x ∷ [] else []) ++ xs) ≡ when b (w x) + sum_by w xs
when-joined w true x xs = sum_by-cons w x xs
when-joined w false x xs = omega arith

first-once : (cores : List ℕ) (core n : ℕ) → tally (λ i. when (is_first cores i core) n) (length cores) + (if is_known cores core then 0 else n) ≡ n
first-once [] core n = omega arith
first-once (c ∷ cores) core n = here (c == core) (first-once cores core n) where
  here : (b : Bool) → tally (λ i. when (is_first cores i core) n) (length cores) + (if is_known cores core then 0 else n) ≡ n
      → (when b n + tally (λ i. when (not b && is_first cores i core) n) (length cores)) + (if (b || is_known cores core) then 0 else n) ≡ n
  here true rest = omega (arith, tally-zero (λ i. when false n) (length cores) (λ i lt. refl))
  here false rest = omega (arith, rest)

-- each thing is spread to the first place of its core, or is left
spread : {X : Type 0} (w : X → ℕ) (core : X → ℕ) (cores : List ℕ) (xs : List X)
    → tally (λ i. sum_by w (joined (λ x. if is_first cores i (core x) then x ∷ [] else []) xs)) (length cores)
    + sum_by w (joined (λ x. if is_known cores (core x) then [] else x ∷ []) xs) ≡ sum_by w xs
spread w core cores [] = omega (arith, tally-zero (λ i. sum_by w []) (length cores) (λ i lt. refl))
spread w core cores (x ∷ xs) =
    omega (
      arith,
      spread w core cores xs,
      first-once cores (core x) (w x),
      tally-add (λ i. sum_by w ((if is_first cores i (core x) then x ∷ [] else []) ++ joined (λ y. if is_first cores i (core y) then y ∷ [] else []) xs))
          (λ i. when (is_first cores i (core x)) (w x)) (λ i. sum_by w (joined (λ y. if is_first cores i (core y) then y ∷ [] else []) xs)) (length cores)
          (λ i lt. when-joined w (is_first cores i (core x)) x _),
      left (is_known cores (core x)),
      sum_by-cons w x xs,
    ) where
      left : (b : Bool) → sum_by w ((if b then [] else x ∷ []) ++ joined (λ y. if is_known cores (core y) then [] else y ∷ []) xs)
          ≡ (if b then 0 else w x) + sum_by w (joined (λ y. if is_known cores (core y) then [] else y ∷ []) xs)
      left true = omega arith
      left false = sum_by-cons w x (joined (λ y. if is_known cores (core y) then [] else y ∷ []) xs)

one-place : (c n k : ℕ) → c < n → tally (λ i. when (c == i) k) n ≡ k
one-place c zero k lt = absurd (omega arith)
one-place zero (suc n) k lt = omega (arith, tally-zero (λ i. when (0 == suc i) k) n (λ i h. apart i)) where
  apart : (i : ℕ) → when (0 == suc i) k ≡ 0
  apart i = let e : (0 == suc i) ≡ false = grind (arith, nat_tests) in ap (λ b. when b k) e
one-place (suc c) (suc n) k lt = omega (arith, apart c, tally-same (λ i. when (suc c == suc i) k) (λ i. when (c == i) k) n (λ i h. same c i), one-place c n k (omega arith)) where
  apart : (c : ℕ) → when (suc c == 0) k ≡ 0
  apart c = let e : (suc c == 0) ≡ false = grind (arith, nat_tests) in ap (λ b. when b k) e

  same : (c i : ℕ) → when (suc c == suc i) k ≡ when (c == i) k
  same c i = let e : (suc c == suc i) ≡ (c == i) = grind (arith, nat_tests) in ap (λ b. when b k) e

module _ {U : Type 0} where
  -- each landing is from a place
  landings : (w : Parcel U Work → ℕ) (n : ℕ) (ins : List (ℕ × Parcel U Work)) → ((i : ℕ) → n ≤ i → joined (from_place {U = U} i) ins ≡ [])
      → tally (λ i. sum_by w (joined (from_place {U = U} i) ins)) n ≡ sum_by w (parcels_in ins)
  landings w n [] none = tally-zero (λ i. sum_by w []) n (λ i lt. refl)
  landings w n ((c, s) ∷ ins) none =
      omega (
        arith,
        tally-add (λ i. sum_by w ((if c == i then s ∷ [] else []) ++ joined (from_place {U = U} i) ins)) (λ i. when (c == i) (w s)) (λ i. sum_by w (joined (from_place {U = U} i) ins)) n
            (λ i lt. when-joined w (c == i) s _),
        one-place c n (w s) within,
        landings w n ins (λ i le. rest (c == i) i (none i le)),
        sum_by-cons w s (parcels_in ins),
      ) where
        rest : (b : Bool) (i : ℕ) → (if b then s ∷ [] else []) ++ joined (from_place {U = U} i) ins ≡ [] → joined (from_place {U = U} i) ins ≡ []
        rest true i e = absurd (cc)
        rest false i e = e

        beyond : n ≤ c → c < n
        beyond le = let e : (if c == c then s ∷ [] else []) ++ joined (from_place {U = U} c) ins ≡ [] = none c le in absurd (clash (c == c) (grind (arith, nat_tests)) e) where
          clash : (b : Bool) → b ≡ true → (if b then s ∷ [] else []) ++ joined (from_place {U = U} c) ins ≡ [] → ⊥
          clash true is e = cc
          clash false is e = cc

        within : c < n
        within = elim (cases_lt c n) [ inl lt ↦ lt | inr le ↦ beyond le ]

module _ {X : Type 0} where
  sum-split : (g h : X → ℕ) (xs : List X) → sum_by (λ x. g x + h x) xs ≡ sum_by g xs + sum_by h xs
  sum-split g h [] = refl
  sum-split g h (x ∷ xs) = omega (arith, sum-split g h xs, sum_by-cons (λ y. g y + h y) x xs, sum_by-cons g x xs, sum_by-cons h x xs)

abbrev buffers_for : (Name → ℕ) → List ℕ → List Buffer → ℕ → ℕ
buffers_for f cores bufs i = buffers_weight f (joined (buffer_to cores i) bufs)

abbrev landed_from : {U : Type 0} → (U → ℕ) → (Name → ℕ) → List (ℕ × Parcel U Work) → ℕ → ℕ
landed_from {U} w f ins i = parcels_weight w f (joined (from_place {U = U} i) ins)

abbrev parcels_for : {U : Type 0} → (U → ℕ) → (Name → ℕ) → List ℕ → List (Parcel U Work) → ℕ → ℕ
parcels_for {U} w f cores outs i = parcels_weight w f (joined (parcel_to {U = U} cores i) outs)

module _ {U E : Type 0} (w : U → ℕ) (f : Name → ℕ) where
  kinds : (ms : List (Message U E)) → messages_weight w f ms ≡ ships_weight w f (joined ship_in ms) + buffers_weight f (joined home_in ms)
  kinds [] = refl
  kinds (Ship s ∷ ms) = omega (arith, kinds ms, sum_by-cons (message_weight w f) (Ship s) ms, sum_by-cons (parcel_weight w f) (parcel_of s) (map parcel_of (joined ship_in ms)))
  kinds (Home b ∷ ms) = omega (arith, kinds ms, sum_by-cons (message_weight w f) (Home b) ms, sum_by-cons (λ (z : Buffer). f z.name) b (joined home_in ms))

  ships-append : (xs ys : List (Shipment U Work E)) → ships_weight w f (xs ++ ys) ≡ ships_weight w f xs + ships_weight w f ys
  ships-append xs ys = omega (arith, ap (parcels_weight w f) (map-append parcel_of xs ys), sum_by-append (parcel_weight w f) (map parcel_of xs) (map parcel_of ys))

  -- the buffers that ever came home over a link
  abbrev link_homes : Link U E → ℕ
  link_homes l = buffers_weight f (joined home_in (taken l.take))

  abbrev link_holds : Link U E → ℕ
  link_holds l = link_weight w f l + (link_put w f l + link_homes l)

  link-weighs : (cores : List ℕ) (i : ℕ) (ins : List (ℕ × Parcel U Work)) (bufs : List Buffer) (outs : List (Parcel U Work)) (x y : Link U E) → LinkRan cores i ins bufs outs x y
      → (link_holds y + link_taken w f x) + landed_from w f ins i ≡ (link_holds x + link_taken w f y) + (parcels_for w f cores outs i + buffers_for f cores bufs i)
  link-weighs cores i ins bufs outs x y r =
      let msgs = message_weight {U = U} {E = E} w f in
      let homes = λ (b : Buffer). f b.name in
      let heard : link_taken w f y ≡ link_taken w f x + messages_weight w f r.messages = ap (messages_weight w f) r.heard ∙ sum_by-append msgs (taken x.take) r.messages in
      let came : link_homes y ≡ link_homes x + buffers_weight f (joined home_in r.messages) =
      ap (λ l. buffers_weight f (joined home_in l)) r.heard ∙ ap (buffers_weight f) (joined-append home_in (taken x.take) r.messages) ∙ sum_by-append homes (joined home_in (taken x.take)) (joined home_in r.messages) in
      let ships : ships_weight w f x.ships.items + ships_weight w f (joined ship_in r.messages) ≡ ships_weight w f r.landed + ships_weight w f y.ships.items =
      sym (ships-append x.ships.items (joined ship_in r.messages)) ∙ ap (ships_weight w f) r.ships ∙ ships-append r.landed y.ships.items in
      let landings : ships_weight w f r.landed ≡ landed_from w f ins i = ap (parcels_weight w f) r.landings in
      let put : link_put w f y + messages_weight w f y.waiting.items ≡ link_put w f x + (messages_weight w f x.waiting.items + messages_weight w f r.sent) =
      sym (sum_by-append msgs (put_list y.put) y.waiting.items) ∙ ap (messages_weight w f) r.put ∙ sum_by-append msgs (put_list x.put) (x.waiting.items ++ r.sent)
      ∙ ap (λ n. link_put w f x + n) (sum_by-append msgs x.waiting.items r.sent) in
      let left : ships_weight w f (joined ship_in r.sent) ≡ parcels_for w f cores outs i = ap (parcels_weight w f) r.shipments in
      let home : buffers_weight f (joined home_in r.sent) ≡ buffers_for f cores bufs i = ap (buffers_weight f) r.homes in
      let all : messages_weight w f r.messages ≡ ships_weight w f (joined ship_in r.messages) + buffers_weight f (joined home_in r.messages) = kinds r.messages in
      let sent : messages_weight w f r.sent ≡ ships_weight w f (joined ship_in r.sent) + buffers_weight f (joined home_in r.sent) = kinds r.sent in
      omega (arith, heard, came, ships, landings, put, left, home, all, sent)

  links-weigh : (cores : List ℕ) (ins : List (ℕ × Parcel U Work)) (bufs : List Buffer) (outs : List (Parcel U Work)) (a b c : ℕ → ℕ) (xs ys : List (Link U E)) → length ys ≡ length xs
      → ((i : ℕ) (d : Link U E) → i < length xs
      → (link_holds (get_or ys i d) + link_taken w f (get_or xs i d)) + a i ≡ (link_holds (get_or xs i d) + link_taken w f (get_or ys i d)) + (b i + c i))
      → (sum_by link_holds ys + sum_by (link_taken w f) xs) + tally a (length xs) ≡ (sum_by link_holds xs + sum_by (link_taken w f) ys) + (tally b (length xs) + tally c (length xs))
  links-weigh cores ins bufs outs a b c [] [] len each = refl
  links-weigh cores ins bufs outs a b c [] (y ∷ ys) len each = absurd (omega arith)
  links-weigh cores ins bufs outs a b c (x ∷ xs) [] len each = absurd (omega arith)
  links-weigh cores ins bufs outs a b c (x ∷ xs) (y ∷ ys) len each =
      omega (
        arith,
        each 0 x (omega arith),
        links-weigh cores ins bufs outs (λ i. a (suc i)) (λ i. b (suc i)) (λ i. c (suc i)) xs ys (omega (arith, len)) (λ i d lt. each (suc i) d (omega arith)),
        sum_by-cons link_holds y ys,
        sum_by-cons link_holds x xs,
        sum_by-cons (link_taken w f) y ys,
        sum_by-cons (link_taken w f) x xs,
      )

  cores-count : (links : List (Link U E)) → length (cores_of links) ≡ length links
  cores-count [] = refl
  cores-count (l ∷ links) = ap suc (cores-count links)

  holds-split : (links : List (Link U E)) → sum_by link_holds links ≡ sum_by (link_weight w f) links + (sum_by (link_put w f) links + homes_weight f links)
  holds-split links =
      sum-split (link_weight w f) (λ l. link_put w f l + link_homes l) links ∙ ap (λ n. sum_by (link_weight w f) links + n) (sum-split (link_put w f) link_homes links)

  -- what turns make of all links
  all-links : (ins : List (ℕ × Parcel U Work)) (bufs : List Buffer) (outs : List (Parcel U Work)) (xs ys : List (Link U E)) → LinksRan ins bufs outs xs ys
      → (((sum_by (link_weight w f) ys + (sum_by (link_put w f) ys + homes_weight f ys)) + sum_by (link_taken w f) xs) + parcels_weight w f (parcels_in ins))
      + (parcels_weight w f (joined (parcel_lost (cores_of xs)) outs) + buffers_weight f (joined (buffer_left (cores_of xs)) bufs))
      ≡ ((sum_by (link_weight w f) xs + (sum_by (link_put w f) xs + homes_weight f xs)) + sum_by (link_taken w f) ys) + (parcels_weight w f outs + buffers_weight f bufs)
  all-links ins bufs outs xs ys r =
      let cores = cores_of xs in
      let n = length xs in
      let each : (sum_by link_holds ys + sum_by (link_taken w f) xs) + tally (landed_from w f ins) n
      ≡ (sum_by link_holds xs + sum_by (link_taken w f) ys) + (tally (parcels_for w f cores outs) n + tally (buffers_for f cores bufs) n) =
      links-weigh cores ins bufs outs (landed_from w f ins) (parcels_for w f cores outs) (buffers_for f cores bufs) xs ys r.count
      (λ i d lt. link-weighs cores i ins bufs outs (get_or xs i d) (get_or ys i d) (r.each i d lt)) in
      let from : tally (landed_from w f ins) n ≡ parcels_weight w f (parcels_in ins) = landings (parcel_weight w f) n ins r.none in
      let parcels : tally (parcels_for w f cores outs) (length cores) + parcels_weight w f (joined (parcel_lost cores) outs) ≡ parcels_weight w f outs =
      spread (parcel_weight w f) (λ (s : Parcel U Work). s.to) cores outs in
      let buffers : tally (buffers_for f cores bufs) (length cores) + buffers_weight f (joined (buffer_left cores) bufs) ≡ buffers_weight f bufs =
      spread (λ (b : Buffer). f b.name) (λ (b : Buffer). b.name.id.home.0) cores bufs in
      let count : length cores ≡ n = cores-count xs in
      omega (arith, each, from, rw count at parcels, rw count at buffers, holds-split xs, holds-split ys)

module _ {U E : Type 0} (counted : Work → Bool) (name : Work → ℕ) (stepped : U → List (ℕ × ℕ)) (advanced : U → E → ℕ → List Work → U → Type 0) (drained : U → List Buffer → U → Type 0) (env : E)
    (weight : (Name → ℕ) → U → ℕ)
    (steps : (f : Name → ℕ) (x : U) (core : ℕ) (items : List Work) (y : U) → advanced x env core items y → weight f y ≡ weight f x + works_weight f items)
    (drains : (f : Name → ℕ) (x : U) (bufs : List Buffer) (y : U) → drained x bufs y → weight f y + buffers_weight f bufs ≡ weight f x) where
  pub conserved : (x y : Core U E) → length x.desks.groups ≡ 512 → Ran counted name stepped advanced drained env x y → Conserves weight x y
  conserved x y len r f =
      let w = weight f in
      let run = run-weighs w f counted name stepped advanced drained env (steps f) (drains f) x.desks y.desks r.dealt r.ins r.frees r.outs len r.run in
      let links = all-links w f r.ins (all_of r.frees) r.outs x.links.items y.links.items r.links in
      let queue : items_weight f x.came.items + items_weight f r.items ≡ items_weight f r.dealt + items_weight f y.came.items =
      sym (sum_by-append (item_weight f) x.came.items r.items) ∙ ap (items_weight f) r.queue ∙ sum_by-append (item_weight f) r.dealt y.came.items in
      let took : items_weight f (taken y.items) ≡ items_weight f (taken x.items) + items_weight f r.items = ap (items_weight f) r.took ∙ sum_by-append (item_weight f) (taken x.items) r.items in
      let put : buffers_weight f (put_list y.posted) ≡ buffers_weight f (put_list x.posted) + buffers_weight f r.posts =
      ap (buffers_weight f) r.put ∙ sum_by-append (λ (b : Buffer). f b.name) (put_list x.posted) r.posts in
      let lost : ships_weight w f y.lost.items ≡ ships_weight w f x.lost.items + parcels_weight w f (joined (parcel_lost (cores_of x.links.items)) r.outs) =
      ap (parcels_weight w f) r.lost ∙ sum_by-append (parcel_weight w f) (map parcel_of x.lost.items) (joined (parcel_lost (cores_of x.links.items)) r.outs) in
      omega (arith, run, links, queue, took, put, lost, r.weight f)

  pub groups_kept : (x y : Core U E) → length x.desks.groups ≡ 512 → Ran counted name stepped advanced drained env x y → length y.desks.groups ≡ 512
  groups_kept x y len r =
      run-groups (weight (λ n. 0)) (λ n. 0) counted name stepped advanced drained env (steps (λ n. 0)) (drains (λ n. 0)) x.desks y.desks r.dealt r.ins r.frees r.outs len r.run
