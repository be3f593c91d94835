-- Links that change one after the other, and each in its turn.
use Rattle.std.proofs.Common.{◌≡◌, ◌≢◌, ◌<◌, ◌≤◌, ◌+◌, ℕ, zero, suc, Bool, true, false, List, [], ◌∷◌, ◌++◌, ◌⊎◌, inl, inr, Some, None, map, length, length-append, get_or, set, sum_by, refl, sym, ap, subst, ◌∙◌, arith, append_assoc, append-nil}
use Rattle.std.specs.Prelude.{◌==◌, ◌&&◌, ◌||◌, nat_lt, not}
use Rattle.std.proofs.Math.ListN.{length-set}
use Rattle.std.proofs.lemmas.Bool.{cases_eq}
use Rattle.std.proofs.lemmas.Bool.Decides.{nat_tests}
use Rattle.std.proofs.lemmas.List.{get_or-set_other, get_or-set_same, map-append}
use Rattle.std.specs.List.{list_any}
use Rattle.std.proofs.lemmas.List.Sums.{sum_by-append, sum_by-cons}
use Rattle.ix_base.specs.Places.{map-changed, sum_by-changed}
use Rattle.ix_mbuf.specs.Buffers.{Buffer, buffers_weight}
use Rattle.ix_ring.specs.Ends.{put_list, taken}
use Rattle.ix_desk.specs.declared.unit.Shipment.{Shipment}
use Rattle.ix_desk.specs.Pieces.{joined}
use Rattle.ix_desk.specs.Views.{View}
use Rattle.ix_desk.specs.Groups.{changed, empty, unit_of}
use Rattle.ix_desk.specs.Desks.{Ships, group_at, with_group}
use Rattle.ix_stack.specs.declared.work.Work.{Work}
use Rattle.ix_core.specs.declared.link.Link.{Link}
use Rattle.ix_core.specs.declared.message.MeshEnd.{MeshEnd}
use Rattle.ix_core.specs.declared.message.Message.{Message}
use Rattle.ix_core.specs.declared.message.Message.TheVariants.{Ship, Home}
use Rattle.ix_history.specs.Events.{Parcel}
use Rattle.ix_core.specs.Runs.{both, calm-gone, calm-joins, calm-lent, calm-stays, joined-append}
use Rattle.ix_core.specs.Landing.{FirstUnawaited, home_in, landing_of, parcel_of}
use Rattle.ix_core.specs.Lists.{grows, puts}
use Rattle.ix_core.specs.LinkRuns.{links_join, links_stay}
use Rattle.ix_core.proofs.Awaited.{run_unawaited}
use Rattle.ix_core.proofs.Units.{unit_changed, unit_within}
use Rattle.ix_core.specs.Links.{AreOpened, Brings, Departs, Drains, DrainsSome, Frees, Hears, HeardUp, HearsAll, HearsSome, IsBehind, IsDrained, IsOpenedLink, Keeps, Leaves, LinkRan, LinksRan, SameLink, SameLinks, Sends, all_of, all_out, all_put, all_taken, buffer_left, buffer_to, cores_of, from_place, homes_weight, is_first, is_known, link_waits, parcel_lost, parcel_to, puts_of, takes_of}

-- ## The place of a core
same_number : (a b : ℕ) → a ≡ b → (a == b) ≡ true
same_number a b h = grind (arith, nat_tests)

other_number : (a b : ℕ) → a ≢ b → (a == b) ≡ false
other_number a b h = grind (arith, nat_tests)

pub first_other : (cores : List ℕ) (i j core : ℕ) → is_first cores i core ≡ true → j ≢ i → is_first cores j core ≡ false
first_other [] i j core e apart = refl
first_other (c ∷ cores) zero zero core e apart = absurd (apart refl)
first_other (c ∷ cores) zero (suc j) core e apart = rw e refl
first_other (c ∷ cores) (suc i) zero core e apart = here (c == core) e where
  here : (b : Bool) → (not b && is_first cores i core) ≡ true → b ≡ false
  here true e = absurd (cc)
  here false e = refl
first_other (c ∷ cores) (suc i) (suc j) core e apart = here (c == core) e (λ rest. first_other cores i j core rest (λ is. apart (ap suc is))) where
  here : (b : Bool) → (not b && is_first cores i core) ≡ true → (is_first cores i core ≡ true → is_first cores j core ≡ false)
      → (not b && is_first cores j core) ≡ false
  here true e later = refl
  here false e later = later e

pub first_known : (cores : List ℕ) (i core : ℕ) → is_first cores i core ≡ true → is_known cores core ≡ true
first_known [] i core e = absurd (cc)
first_known (c ∷ cores) zero core e = rw e refl
first_known (c ∷ cores) (suc i) core e = here (c == core) e (λ rest. first_known cores i core rest) where
  here : (b : Bool) → (not b && is_first cores i core) ≡ true → (is_first cores i core ≡ true → is_known cores core ≡ true)
      → (b || is_known cores core) ≡ true
  here true e later = refl
  here false e later = later e

pub first_unknown : (cores : List ℕ) (j core : ℕ) → is_known cores core ≡ false → is_first cores j core ≡ false
first_unknown [] j core e = refl
first_unknown (c ∷ cores) zero core e = here (c == core) e where
  here : (b : Bool) → (b || is_known cores core) ≡ false → b ≡ false
  here true e = e
  here false e = refl
first_unknown (c ∷ cores) (suc j) core e = here (c == core) e (λ rest. first_unknown cores j core rest) where
  here : (b : Bool) → (b || is_known cores core) ≡ false → (is_known cores core ≡ false → is_first cores j core ≡ false)
      → (not b && is_first cores j core) ≡ false
  here true e later = refl
  here false e later = later e

to_none : (cores : List ℕ) (j : ℕ) (b : Buffer) → is_first cores j b.name.id.home.0 ≡ false → joined (buffer_to cores j) (b ∷ []) ≡ []
to_none cores j b e = rw e refl

ship_none : {U : Type 0} (cores : List ℕ) (j : ℕ) (s : Parcel U Work) → is_first cores j s.to ≡ false → joined (parcel_to cores j) (s ∷ []) ≡ []
ship_none cores j s e = rw e refl

-- ## Counts
not_below : (a b : ℕ) → b ≤ a → nat_lt a b ≡ false
not_below a b h = grind (arith, nat_tests)

either_below : (old new next more : ℕ) (some one : Bool) → old ≤ new → some ≡ nat_lt old new → one ≡ nat_lt 0 more → next ≡ new + more → (some || one) ≡ nat_lt old next
either_below old new next more some one le p q e = rw (p, q, e) (grind (arith, nat_tests))

one_waits : (k p puts outs puts' outs' : ℕ) → puts ≤ outs → puts' ≡ p + puts → outs' ≡ (p + k) + outs → (nat_lt 0 k || nat_lt puts outs) ≡ nat_lt puts' outs'
one_waits k p puts outs puts' outs' le e d = rw (e, d) (grind (arith, nat_tests))

pub came_so : (n m : ℕ) → n ≡ m → nat_lt 0 m ≡ nat_lt 0 n
came_so n m e = ap (λ k. nat_lt 0 k) (sym e)

-- so many messages, by their count
pub stops_so : (n m : ℕ) (K : Type 0) → n ≡ m → (m ≡ 256) ⊎ ((m < 256) × K) → (n ≡ 256) ⊎ ((n < 256) × K)
stops_so n m K e stops = subst (λ (k : ℕ). (k ≡ 256) ⊎ ((k < 256) × K)) (sym e) stops

pub get_any : {X : Type 0} (xs : List X) (i : ℕ) (d e : X) → i < length xs → get_or xs i d ≡ get_or xs i e
get_any [] i d e h = absurd (omega arith)
get_any (x ∷ xs) zero d e h = refl
get_any (x ∷ xs) (suc i) d e h = get_any xs i d e (omega arith)

module _ {U E : Type 0} where
  pub first_found : (links : List (Link U E)) (i core : ℕ) (d : Link U E) → i < length links → (get_or links i d).core.0 ≡ core
      → ((k : ℕ) (e : Link U E) → k < i → (get_or links k e).core.0 ≢ core) → is_first (cores_of links) i core ≡ true
  first_found [] i core d h is none = absurd (omega arith)
  first_found (l ∷ links) zero core d h is none = same_number l.core.0 core is
  first_found (l ∷ links) (suc i) core d h is none =
      rw (other_number l.core.0 core (none 0 d (omega arith))) (first_found links i core d (omega arith) is (λ k e lt. none (suc k) e (omega arith)))

  pub known_none : (links : List (Link U E)) (core : ℕ) → ((k : ℕ) (e : Link U E) → k < length links → (get_or links k e).core.0 ≢ core) → is_known (cores_of links) core ≡ false
  known_none [] core none = refl
  known_none (l ∷ links) core none = rw (other_number l.core.0 core (none 0 l (omega arith))) (known_none links core (λ k e lt. none (suc k) e (omega arith)))

  -- ## One link that changes
  rests : (cores : List ℕ) (j : ℕ) (ins : List (ℕ × Parcel U Work)) (bufs : List Buffer) (outs : List (Parcel U Work)) (x : Link U E)
      → joined (from_place {U = U} j) ins ≡ [] → joined (buffer_to cores j) bufs ≡ [] → joined (parcel_to {U = U} cores j) outs ≡ []
      → LinkRan cores j ins bufs outs x x
  rests cores j ins bufs outs x p q r = record {
    messages = [];
    landed = [];
    sent = [];
    heard = sym (append-nil _);
    ships = append-nil _;
    landings = sym p;
    puts = [];
    grown = sym (append-nil _);
    put = ap (λ l. put_list x.put ++ l) (sym (append-nil x.waiting.items));
    shipments = sym r;
    homes = sym q;
  }

  pub links_one : (ins : List (ℕ × Parcel U Work)) (bufs : List Buffer) (outs : List (Parcel U Work)) (old new : List (Link U E)) (i : ℕ) (x y : Link U E)
      → i < length old → x ≡ get_or old i x → new ≡ set old i y → y.core ≡ x.core → LinkRan (cores_of old) i ins bufs outs x y
      → ((j : ℕ) → j ≢ i → joined (from_place {U = U} j) ins ≡ []) → ((j : ℕ) → j ≢ i → joined (buffer_to (cores_of old) j) bufs ≡ [])
      → ((j : ℕ) → j ≢ i → joined (parcel_to {U = U} (cores_of old) j) outs ≡ []) → LinksRan ins bufs outs old new
  links_one ins bufs outs old new i x y lt read is core one p q r = record {
    cores = ap cores_of is ∙ map-changed (λ (l : Link U E). l.core.0) old i x y read (ap (λ (c : _). c.0) core);
    count = ap length is ∙ length-set old i y;
    each = λ j d within. step j d (cases_eq j i);
    none = λ j beyond. p j (λ e. omega arith);
  } where
    step : (j : ℕ) (d : Link U E) → (j ≡ i) ⊎ (j ≢ i) → LinkRan (cores_of old) j ins bufs outs (get_or old j d) (get_or new j d)
    step j d (inl same) =
        let here : get_or old j d ≡ x = ap (λ k. get_or old k d) same ∙ known d in
        let there : get_or new j d ≡ y = ap (λ k. get_or new k d) same ∙ ap (λ (l : List (Link U E)). get_or l i d) is ∙ get_or-set_same old i y d lt in
        rw (here, there, same) one where
          known : (d : Link U E) → get_or old i d ≡ x
          known d = get_any old i d x lt ∙ sym read
    step j d (inr apart) =
        let there : get_or new j d ≡ get_or old j d = ap (λ (l : List (Link U E)). get_or l j d) is ∙ get_or-set_other old i j y d apart in
        rw there (rests (cores_of old) j ins bufs outs (get_or old j d) (p j apart) (q j apart) (r j apart))

  -- the same links, where one of them changed
  pub same_one : (old new next : List (Link U E)) (i : ℕ) (x y : Link U E) → i < length new → x ≡ get_or new i x → next ≡ set new i y
      → SameLink x y → SameLinks old new → SameLinks old next
  same_one old new next i x y lt read is same so = record {
    count = ap length is ∙ length-set new i y ∙ so.count;
    each = λ j d. step j d (cases_eq j i);
  } where
    step : (j : ℕ) (d : Link U E) → (j ≡ i) ⊎ (j ≢ i) → SameLink (get_or old j d) (get_or next j d)
    step j d (inl e) =
        let before : get_or new j d ≡ x = ap (λ k. get_or new k d) e ∙ get_any new i d x lt ∙ sym read in
        let after : get_or next j d ≡ y = ap (λ k. get_or next k d) e ∙ ap (λ (l : List (Link U E)). get_or l i d) is ∙ get_or-set_same new i y d lt in
        let one = so.each j d in
        rw after (record {
          core = same.core ∙ ap (λ (k : Link U E). k.core) (sym before) ∙ one.core;
          take = same.take ∙ ap (λ (k : Link U E). k.take.ring) (sym before) ∙ one.take;
          put = (same.put.0 ∙ ap (λ (k : Link U E). k.put.ring) (sym before) ∙ one.put.0, same.put.1 ∙ ap (λ (k : Link U E). k.put.places) (sym before) ∙ one.put.1);
        })
    step j d (inr apart) =
        let there : get_or next j d ≡ get_or new j d = ap (λ (l : List (Link U E)). get_or l j d) is ∙ get_or-set_other new i j y d apart in
        rw there (so.each j d)

  pub takes_one : (old new : List (Link U E)) (i : ℕ) (x y : Link U E) → x ≡ get_or old i x → new ≡ set old i y → y.take ≡ x.take → takes_of new ≡ takes_of old
  takes_one old new i x y read is same = ap takes_of is ∙ map-changed (λ (k : Link U E). k.take) old i x y read same

  pub puts_one : (old new : List (Link U E)) (i : ℕ) (x y : Link U E) → x ≡ get_or old i x → new ≡ set old i y → y.put ≡ x.put → puts_of new ≡ puts_of old
  puts_one old new i x y read is same = ap puts_of is ∙ map-changed (λ (k : Link U E). k.put) old i x y read same

  sent_whole : (x y : Link U E) → Sends x y → put_list y.put ++ y.waiting.items ≡ put_list x.put ++ x.waiting.items
  sent_whole x y s = ap (λ l. l ++ y.waiting.items) s.put ∙ append_assoc (put_list x.put) s.sent y.waiting.items ∙ ap (λ l. put_list x.put ++ l) (sym s.waited)

  pub sends_none : (x : Link U E) → Sends x x
  sends_none x = record { take = refl; ships = refl; sent = []; put = sym (append-nil _); waited = refl }

  pub sends_more : (x y z : Link U E) (m : Message U E) (rest : List (Message U E)) → Sends x y → y.waiting.items ≡ m ∷ rest → z.take ≡ y.take → z.ships ≡ y.ships
      → put_list z.put ≡ put_list y.put ++ m ∷ [] → z.waiting.items ≡ rest → Sends x z
  sends_more x y z m rest s next take ships put waits = record {
    take = take ∙ s.take;
    ships = ships ∙ s.ships;
    sent = s.sent ++ m ∷ [];
    put = put ∙ ap (λ l. l ++ m ∷ []) s.put ∙ append_assoc (put_list x.put) s.sent (m ∷ []);
    waited = s.waited ∙ ap (λ l. s.sent ++ l) next ∙ ap (λ l. s.sent ++ (m ∷ l)) (sym waits) ∙ sym (append_assoc s.sent (m ∷ []) z.waiting.items);
  }

  pub out_one : (old new : List (Link U E)) (i : ℕ) (x y : Link U E) → i < length old → x ≡ get_or old i x → new ≡ set old i y → Sends x y → all_out new ≡ all_out old
  out_one old new i x y lt read is s =
      let h = λ (k : Link U E). length (put_list k.put) + length k.waiting.items in
      let one : sum_by h (set old i y) + h x ≡ sum_by h old + h y = sum_by-changed h old i x y lt read in
      let kept : h y ≡ h x = sym (length-append (put_list y.put) y.waiting.items) ∙ ap length (sent_whole x y s) ∙ length-append (put_list x.put) x.waiting.items in
      ap (sum_by h) is ∙ omega (arith, one, kept)

  pub sends_one : (new next : List (Link U E)) (i : ℕ) (x y : Link U E) → i < length new → x ≡ get_or new i x → next ≡ set new i y
      → y.core ≡ x.core → Sends x y → LinksRan [] [] [] new next
  sends_one new next i x y lt read is core s =
      links_one [] [] [] new next i x y lt read is core (record {
        messages = [];
        landed = [];
        sent = [];
        heard = ap taken s.take ∙ sym (append-nil _);
        ships = append-nil _ ∙ sym (ap (λ (q : _). q.items) s.ships);
        landings = refl;
        puts = s.sent;
        grown = s.put;
        put = sent_whole x y s ∙ ap (λ l. put_list x.put ++ l) (sym (append-nil x.waiting.items));
        shipments = refl;
        homes = refl;
      })
      (λ j apart. refl) (λ j apart. refl) (λ j apart. refl)

  pub behind_more : (new next : List (Link U E)) (n : ℕ) (y : Link U E) → n < length new → next ≡ set new n y → IsBehind y
      → ((i : ℕ) (d : Link U E) → i < n → IsBehind (get_or new i d)) → (i : ℕ) (d : Link U E) → i < n + 1 → IsBehind (get_or next i d)
  behind_more new next n y lt is one so i d h = step (cases_eq i n) where
    step : (i ≡ n) ⊎ (i ≢ n) → IsBehind (get_or next i d)
    step (inl e) =
        let after : get_or next i d ≡ y = ap (λ k. get_or next k d) e ∙ ap (λ (l : List (Link U E)). get_or l n d) is ∙ get_or-set_same new n y d lt in
        subst IsBehind (sym after) one
    step (inr apart) =
        let there : get_or next i d ≡ get_or new i d = ap (λ (l : List (Link U E)). get_or l i d) is ∙ get_or-set_other new n i y d apart in
        subst IsBehind (sym there) (so i d (omega arith))

  -- ## Landings from a place
  own : (place : ℕ) (ss : List (Shipment U Work E)) → joined (from_place {U = U} place) (map (landing_of place) ss) ≡ map parcel_of ss
  own place [] = refl
  own place (s ∷ ss) = rw (same_number place place refl) (ap (λ l. parcel_of s ∷ l) (own place ss))

  others : (place j : ℕ) (ss : List (Shipment U Work E)) → j ≢ place → joined (from_place {U = U} j) (map (landing_of place) ss) ≡ []
  others place j [] apart = refl
  others place j (s ∷ ss) apart = rw (other_number place j (λ is. apart (sym is))) (others place j ss apart)

  -- ## Messages that wait
  pub waits_home : (cores : List ℕ) (place : ℕ) (b : Buffer) (x y : Link U E) → is_first cores place b.name.id.home.0 ≡ true
      → Keeps (Home b) x y → LinkRan cores place [] (b ∷ []) [] x y
  waits_home cores place b x y here k = record {
    messages = [];
    landed = [];
    sent = Home b ∷ [];
    heard = ap taken k.take ∙ sym (append-nil _);
    ships = append-nil _ ∙ sym (ap (λ (q : _). q.items) k.ships);
    landings = refl;
    puts = [];
    grown = ap put_list k.put ∙ sym (append-nil _);
    put = both _ _ _ _ (ap put_list k.put) k.waiting;
    shipments = refl;
    homes = rw here refl;
  }

  pub waits_ship : (cores : List ℕ) (place : ℕ) (s : Shipment U Work E) (x y : Link U E) → is_first cores place s.to.0 ≡ true
      → Keeps (Ship s) x y → LinkRan cores place [] [] (parcel_of s ∷ []) x y
  waits_ship cores place s x y here k = record {
    messages = [];
    landed = [];
    sent = Ship s ∷ [];
    heard = ap taken k.take ∙ sym (append-nil _);
    ships = append-nil _ ∙ sym (ap (λ (q : _). q.items) k.ships);
    landings = refl;
    puts = [];
    grown = ap put_list k.put ∙ sym (append-nil _);
    put = both _ _ _ _ (ap put_list k.put) k.waiting;
    shipments = rw here refl;
    homes = refl;
  }

  pub brings_away : (b : Buffer) (old new : List (Link U E)) (returns : List Buffer) (i : ℕ) (x y : Link U E) → i < length old → x ≡ get_or old i x
      → new ≡ set old i y → y.core ≡ x.core → is_first (cores_of old) i b.name.id.home.0 ≡ true → Keeps (Home b) x y
      → Brings (b ∷ []) old new returns returns
  brings_away b old new returns i x y lt read is core here k = record {
    links = links_one [] (b ∷ []) [] old new i x y lt read is core (waits_home (cores_of old) i b x y here k) (λ j apart. refl)
        (λ j apart. to_none (cores_of old) j b (first_other (cores_of old) i j b.name.id.home.0 here apart)) (λ j apart. refl);
    takes = takes_one old new i x y read is k.take;
    puts = puts_one old new i x y read is k.put;
    kept = let known = first_known (cores_of old) i b.name.id.home.0 here in rw known (sym (append-nil returns));
  }

  pub brings_left : (b : Buffer) (links : List (Link U E)) (before after : List Buffer) → is_known (cores_of links) b.name.id.home.0 ≡ false
      → after ≡ before ++ b ∷ [] → Brings (b ∷ []) links links before after
  brings_left b links before after none e = record {
    links = record {
      cores = refl;
      count = refl;
      each = λ j d within. rests (cores_of links) j [] (b ∷ []) [] (get_or links j d) refl
          (to_none (cores_of links) j b (first_unknown (cores_of links) j b.name.id.home.0 none)) refl;
      none = λ j beyond. refl;
    };
    takes = refl;
    puts = refl;
    kept = rw none e;
  }

  pub departs_away : (s : Shipment U Work E) (old new : List (Link U E)) (lost : List (Shipment U Work E)) (i : ℕ) (x y : Link U E) → i < length old
      → x ≡ get_or old i x → new ≡ set old i y → y.core ≡ x.core → is_first (cores_of old) i s.to.0 ≡ true → Keeps (Ship s) x y
      → Departs s old new lost lost
  departs_away s old new lost i x y lt read is core here k = record {
    links = links_one [] [] (parcel_of s ∷ []) old new i x y lt read is core (waits_ship (cores_of old) i s x y here k) (λ j apart. refl)
        (λ j apart. refl) (λ j apart. ship_none (cores_of old) j (parcel_of s) (first_other (cores_of old) i j s.to.0 here apart));
    takes = takes_one old new i x y read is k.take;
    puts = puts_one old new i x y read is k.put;
    lost = let known = first_known (cores_of old) i s.to.0 here in rw known (sym (append-nil _));
  }

  pub departs_lost : (s : Shipment U Work E) (links : List (Link U E)) (before after : List (Shipment U Work E)) → is_known (cores_of links) s.to.0 ≡ false
      → after ≡ before ++ s ∷ [] → Departs s links links before after
  departs_lost s links before after none e = record {
    links = record {
      cores = refl;
      count = refl;
      each = λ j d within. rests (cores_of links) j [] [] (parcel_of s ∷ []) (get_or links j d) refl refl
          (ship_none (cores_of links) j (parcel_of s) (first_unknown (cores_of links) j s.to.0 none));
      none = λ j beyond. refl;
    };
    takes = refl;
    puts = refl;
    lost = rw none (ap (map parcel_of) e ∙ map-append parcel_of before (s ∷ []));
  }

  -- ## Messages that wait, counted
  fewer : (links : List (Link U E)) → all_put links ≤ all_out links
  fewer [] = omega arith
  fewer (l ∷ links) =
      omega (
        arith,
        fewer links,
        sum_by-cons (λ (k : Link U E). length (put_list k.put)) l links,
        sum_by-cons (λ (k : Link U E). length (put_list k.put) + length k.waiting.items) l links,
      )

  pub waits_by_count : (links : List (Link U E)) → list_any link_waits links ≡ nat_lt (all_put links) (all_out links)
  waits_by_count [] = refl
  waits_by_count (l ∷ links) =
      ap (λ b. link_waits l || b) (waits_by_count links)
      ∙ one_waits (length l.waiting.items) (length (put_list l.put)) (all_put links) (all_out links) (all_put (l ∷ links)) (all_out (l ∷ links)) (fewer links)
      (sum_by-cons (λ (k : Link U E). length (put_list k.put)) l links)
      (sum_by-cons (λ (k : Link U E). length (put_list k.put) + length k.waiting.items) l links)

  pub opened_more : (ends : List (MeshEnd U E)) (links : List (Link U E)) (e : MeshEnd U E) (l : Link U E) → AreOpened ends links → IsOpenedLink e l → AreOpened (ends ++ e ∷ []) (links ++ l ∷ [])
  opened_more [] [] e l so one = (one, tt)
  opened_more [] (k ∷ links) e l so one = absurd so
  opened_more (d ∷ ends) [] e l so one = absurd so
  opened_more (d ∷ ends) (k ∷ links) e l so one = (so.0, opened_more ends links e l so.1 one)

  pub brings_none : (links : List (Link U E)) (returns : List Buffer) → Brings [] links links returns returns
  brings_none links returns = record { links = links_stay links; takes = refl; puts = refl; kept = sym (append-nil returns) }

  pub brings_more : (bufs more : List Buffer) (x y z : List (Link U E)) (before mid after : List Buffer) → Brings bufs x y before mid
      → Brings more y z mid after → Brings (bufs ++ more) x z before after
  brings_more bufs more x y z before mid after p q = record {
    links = links_join [] [] bufs more [] [] x y z p.links q.links;
    takes = q.takes ∙ p.takes;
    puts = q.puts ∙ p.puts;
    kept = grows before mid after (joined (buffer_left (cores_of x)) bufs) (joined (buffer_left (cores_of x)) more) p.kept
        (q.kept ∙ ap (λ cores. mid ++ joined (buffer_left cores) more) p.links.cores)
        ∙ ap (λ l. before ++ l) (sym (joined-append (buffer_left (cores_of x)) bufs more));
  }

module _ {U E : Type 0} (counted : Work → Bool) (name : Work → ℕ) (stepped : U → List (ℕ × ℕ)) (advanced : U → E → ℕ → List Work → U → Type 0) (drained : U → List Buffer → U → Type 0) (env : E) where
  pub hears_none : (links : List (Link U E)) (x : View U Work) (returns : List Buffer)
      → HearsSome counted name stepped advanced drained env 0 false links links x x returns returns
  hears_none links x returns = record {
    ins = [];
    run = calm-stays counted name stepped advanced drained env x;
    cores = refl;
    count = refl;
    done = λ i d h. absurd (omega arith);
    rest = λ i d h. refl;
    puts = refl;
    stops = λ i d h. absurd (omega arith);
    aside = λ i d h. absurd (omega arith);
    more = omega arith;
    came = sym (not_below (all_taken links) (all_taken links) (omega arith));
    none = λ i h. refl;
    weight = λ f. refl;
  }

  pub hears_more : (n : ℕ) (some one : Bool) (old new next : List (Link U E)) (x y z : View U Work) (before mid after : List Buffer) (l m : Link U E) → n < length new
      → l ≡ get_or new n l → next ≡ set new n m → m.core ≡ l.core → HearsSome counted name stepped advanced drained env n some old new x y before mid
      → Hears counted name stepped advanced drained env n one l m y z mid after
      → HearsSome counted name stepped advanced drained env (n + 1) (some || one) old next x z before after
  hears_more n some one old new next x y z before mid after l m lt read is core so h = record {
    ins = so.ins ++ map (landing_of n) h.landed;
    run = calm-joins counted name stepped advanced drained env x y z [] [] so.ins (map (landing_of n) h.landed) [] [] [] [] so.run h.run;
    cores = ap cores_of is ∙ map-changed (λ (k : Link U E). k.core.0) new n l m read (ap (λ (c : _). c.0) core) ∙ so.cores;
    count = ap length is ∙ length-set new n m ∙ so.count;
    done = λ i d h2. step i d h2 (cases_eq i n);
    rest = λ i d h2. ap (λ (k : List (Link U E)). get_or k i d) is ∙ get_or-set_other new n i m d (λ e. omega arith) ∙ so.rest i d (omega arith);
    puts = puts_one new next n l m read is h.put ∙ so.puts;
    stops = λ i d h2. heard i d h2 (cases_eq i n);
    aside = λ i d h2. kept i d h2 (cases_eq i n);
    more = omega (arith, so.more, count);
    came = either_below (all_taken old) (all_taken new) (all_taken next) (length h.messages) some one so.more so.came h.came count;
    none = λ i h2. joined-append (from_place i) so.ins (map (landing_of n) h.landed) ∙ both _ [] _ [] (so.none i (omega arith)) (others n i h.landed (λ e. omega arith));
    weight = λ f.
        let w = λ (k : Link U E). buffers_weight f (joined home_in (taken k.take)) in
        let whole : homes_weight f next ≡ sum_by w (set new n m) = ap (sum_by w) is in
        let one : sum_by w (set new n m) + w l ≡ sum_by w new + w m = sum_by-changed w new n l m lt read in
        let heard : w m ≡ w l + buffers_weight f (joined home_in h.messages) =
        ap (λ t. buffers_weight f (joined home_in t)) h.heard ∙ ap (buffers_weight f) (joined-append home_in (taken l.take) h.messages)
        ∙ sum_by-append (λ (b : Buffer). f b.name) (joined home_in (taken l.take)) (joined home_in h.messages) in
        let homes : buffers_weight f after ≡ buffers_weight f mid + buffers_weight f (joined home_in h.messages) =
        ap (buffers_weight f) h.homes ∙ sum_by-append (λ (b : Buffer). f b.name) mid (joined home_in h.messages) in
        omega (arith, so.weight f, whole, one, heard, homes);
  } where
    count : all_taken next ≡ all_taken new + length h.messages
    count =
        let w = λ (k : Link U E). length (taken k.take) in
        let one : sum_by w (set new n m) + w l ≡ sum_by w new + w m = sum_by-changed w new n l m lt read in
        let more : w m ≡ w l + length h.messages = ap length h.heard ∙ length-append (taken l.take) h.messages in
        ap (sum_by w) is ∙ omega (arith, one, more)

    heard : (i : ℕ) (d : Link U E) → i < n + 1 → (i ≡ n) ⊎ (i ≢ n) → HeardUp (get_or old i d) (get_or next i d)
    heard i d h2 (inl same) =
        let here : get_or old i d ≡ l = ap (λ k. get_or old k d) same ∙ sym (so.rest n d (omega arith)) ∙ get_any new n d l lt ∙ sym read in
        let there : get_or next i d ≡ m = ap (λ k. get_or next k d) same ∙ ap (λ (k : List (Link U E)). get_or k n d) is ∙ get_or-set_same new n m d lt in
        rw (here, there) (record { messages = h.messages; heard = h.heard; stops = h.stops })
    heard i d h2 (inr apart) =
        let there : get_or next i d ≡ get_or new i d = ap (λ (k : List (Link U E)). get_or k i d) is ∙ get_or-set_other new n i m d apart in
        rw there (so.stops i d (omega arith))

    kept : (i : ℕ) (d : Link U E) → i < n + 1 → (i ≡ n) ⊎ (i ≢ n) → FirstUnawaited z (get_or next i d).ships.items
    kept i d h2 (inl same) =
        let there : get_or next i d ≡ m = ap (λ k. get_or next k d) same ∙ ap (λ (k : List (Link U E)). get_or k n d) is ∙ get_or-set_same new n m d lt in
        rw there h.waits
    kept i d h2 (inr apart) =
        let there : get_or next i d ≡ get_or new i d = ap (λ (k : List (Link U E)). get_or k i d) is ∙ get_or-set_other new n i m d apart in
        rw there (run_unawaited counted name stepped advanced drained env y z [] (map (landing_of n) h.landed) [] [] (get_or new i d).ships.items h.run.run (so.aside i d (omega arith)))

    step : (i : ℕ) (d : Link U E) → i < n + 1 → (i ≡ n) ⊎ (i ≢ n)
        → LinkRan (cores_of old) i (so.ins ++ map (landing_of n) h.landed) [] [] (get_or old i d) (get_or next i d)
    step i d h2 (inl same) =
        let here : get_or old i d ≡ l = ap (λ k. get_or old k d) same ∙ sym (so.rest n d (omega arith)) ∙ get_any new n d l lt ∙ sym read in
        let there : get_or next i d ≡ m = ap (λ k. get_or next k d) same ∙ ap (λ (k : List (Link U E)). get_or k n d) is ∙ get_or-set_same new n m d lt in
        rw (here, there, same) (record {
          messages = h.messages;
          landed = h.landed;
          sent = [];
          heard = h.heard;
          ships = h.ships;
          landings = sym (joined-append (from_place n) so.ins (map (landing_of n) h.landed) ∙ both _ [] _ _ (so.none n (omega arith)) (own n h.landed));
          puts = [];
          grown = ap put_list h.put ∙ sym (append-nil _);
          put = both _ _ _ _ (ap put_list h.put) (h.waiting ∙ sym (append-nil l.waiting.items));
          shipments = refl;
          homes = refl;
        })
    step i d h2 (inr apart) =
        let there : get_or next i d ≡ get_or new i d = ap (λ (k : List (Link U E)). get_or k i d) is ∙ get_or-set_other new n i m d apart in
        let ins : joined (from_place {U = U} i) (so.ins ++ map (landing_of n) h.landed) ≡ joined (from_place i) so.ins =
        joined-append (from_place i) so.ins (map (landing_of n) h.landed) ∙ ap (λ k. joined (from_place i) so.ins ++ k) (others n i h.landed apart)
        ∙ append-nil _ in
        let one = so.done i d (omega arith) in
        rw there (record {
          messages = one.messages;
          landed = one.landed;
          sent = one.sent;
          heard = one.heard;
          ships = one.ships;
          landings = one.landings ∙ sym ins;
          puts = one.puts;
          grown = one.grown;
          put = one.put;
          shipments = one.shipments;
          homes = one.homes;
        })

  pub hears_all : (n : ℕ) (some : Bool) (old new : List (Link U E)) (x y : View U Work) (before after : List Buffer) → n ≡ length old
      → HearsSome counted name stepped advanced drained env n some old new x y before after → HearsAll counted name stepped advanced drained env some old new x y before after
  hears_all n some old new x y before after all so = record {
    ins = so.ins;
    run = so.run;
    links = record { cores = so.cores; count = so.count; each = λ i d h. so.done i d (omega arith); none = λ i h. so.none i (omega arith) };
    puts = so.puts;
    stops = λ i d h. so.stops i d (omega arith);
    aside = λ i d h. so.aside i d (omega (arith, so.count));
    came = so.came;
    weight = so.weight;
  }

  pub drains_none : (links : List (Link U E)) (x : View U Work) (returns : List Buffer)
      → DrainsSome counted name stepped advanced drained env 0 links links x x returns returns
  drains_none links x returns = record {
    frees = [];
    run = calm-stays counted name stepped advanced drained env x;
    links = links_stay links;
    takes = refl;
    puts = refl;
    kept = sym (append-nil returns);
    clean = λ g u lt here. absurd (omega arith);
  }

  pub drains_more : (n : ℕ) (more : List Buffer) (old new next : List (Link U E)) (x y z : View U Work) (before mid after : List Buffer)
      → DrainsSome counted name stepped advanced drained env n old new x y before mid → Frees counted name stepped advanced drained env n more y z
      → Brings more new next mid after → DrainsSome counted name stepped advanced drained env (n + 1) old next x z before after
  drains_more n more old new next x y z before mid after so f b =
      let both_of = brings_more (all_of so.frees) more old new next before mid after (record { links = so.links; takes = so.takes; puts = so.puts; kept = so.kept }) b in
      let whole : all_of (so.frees ++ f.frees) ≡ all_of so.frees ++ more = joined-append (λ (bufs : List Buffer). bufs) so.frees f.frees ∙ ap (λ l. all_of so.frees ++ l) f.all in
      record {
        frees = so.frees ++ f.frees;
        run = calm-joins counted name stepped advanced drained env x y z [] [] [] [] so.frees f.frees [] [] so.run f.run;
        links = subst (λ bufs. LinksRan [] bufs [] old next) (sym whole) both_of.links;
        takes = both_of.takes;
        puts = both_of.puts;
        kept = subst (λ bufs. after ≡ before ++ joined (buffer_left (cores_of old)) bufs) (sym whole) both_of.kept;
        clean = λ g u lt here. step g u lt here (cases_eq g n);
      } where
        step : (g : ℕ) (u : U) → g < n + 1 → unit_of (group_at z g) ≡ Some u → (g ≡ n) ⊎ (g ≢ n) → IsDrained drained u
        step g u lt here (inl same) = f.clean u (ap (λ k. unit_of (group_at z k)) (sym same) ∙ here)
        step g u lt here (inr apart) = so.clean g u (omega arith) (ap unit_of (sym (f.others g apart)) ∙ here)

  pub drains_all : (n : ℕ) (old new : List (Link U E)) (x y : View U Work) (before after : List Buffer) → 512 ≤ n
      → DrainsSome counted name stepped advanced drained env n old new x y before after → Drains counted name stepped advanced drained env old new x y before after
  drains_all n old new x y before after all so = record {
    frees = so.frees;
    run = so.run;
    links = so.links;
    takes = so.takes;
    puts = so.puts;
    kept = so.kept;
    clean = λ g u lt here. so.clean g u (omega arith) here;
  }

  pub frees_none : (g : ℕ) (x : View U Work) → unit_of (group_at x g) ≡ None → Frees counted name stepped advanced drained env g [] x x
  frees_none g x away = record {
    frees = [];
    run = calm-stays counted name stepped advanced drained env x;
    all = refl;
    clean = λ u here. let clash : None ≡ Some u = sym away ∙ here in absurd (cc);
    others = λ h apart. refl;
  }

  pub frees_some : (x y : View U Work) (g : ℕ) (u : U) (bufs : List Buffer) (v : U) → unit_of (group_at x g) ≡ Some u → drained u bufs v
      → y ≡ with_group x g (changed (group_at x g) v) → Frees counted name stepped advanced drained env g bufs x y
  frees_some x y g u bufs v here fact e =
      let lt : g < length x.groups = unit_within x.groups g u here in
      let at : group_at y g ≡ changed (group_at x g) v = ap (λ (w : View U Work). group_at w g) e ∙ get_or-set_same x.groups g (changed (group_at x g) v) empty lt in
      let now : unit_of (group_at y g) ≡ Some v = ap unit_of at ∙ unit_changed (group_at x g) u v here in
      record {
        frees = bufs ∷ [];
        run = calm-lent counted name stepped advanced drained env x y g u bufs v here fact e;
        all = append-nil bufs;
        clean = λ w h. let same : v ≡ w = (let k : Some v ≡ Some w = sym now ∙ h in cc) in subst (IsDrained drained) same (record { before = u; bufs = bufs; so = fact });
        others = λ h apart. ap (λ (w : View U Work). group_at w h) e ∙ get_or-set_other x.groups g h (changed (group_at x g) v) empty apart;
      }

  pub leaves_none : (links : List (Link U E)) (x : View U Work) (lost : List (Shipment U Work E))
      → Leaves counted name stepped advanced drained env links links x x lost lost
  leaves_none links x lost = record {
    outs = [];
    run = calm-stays counted name stepped advanced drained env x;
    links = links_stay links;
    takes = refl;
    puts = refl;
    lost = sym (append-nil _);
  }

  pub leaves_more : (s : Shipment U Work E) (old new next : List (Link U E)) (x y z : View U Work) (before mid after : List (Shipment U Work E))
      → Leaves counted name stepped advanced drained env old new x y before mid → Ships y z s.group.0 s.tenure s.to.0 s.unit s.queue
      → Departs s new next mid after → Leaves counted name stepped advanced drained env old next x z before after
  leaves_more s old new next x y z before mid after so gone d = record {
    outs = so.outs ++ parcel_of s ∷ [];
    run = calm-joins counted name stepped advanced drained env x y z [] [] [] [] [] [] so.outs (parcel_of s ∷ []) so.run
        (calm-gone counted name stepped advanced drained env y z (parcel_of s) gone);
    links = links_join [] [] [] [] so.outs (parcel_of s ∷ []) old new next so.links d.links;
    takes = d.takes ∙ so.takes;
    puts = d.puts ∙ so.puts;
    lost = grows (map parcel_of before) (map parcel_of mid) (map parcel_of after) (joined (parcel_lost (cores_of old)) so.outs)
        (joined (parcel_lost (cores_of old)) (parcel_of s ∷ [])) so.lost
        (d.lost ∙ ap (λ cores. map parcel_of mid ++ parcel_lost cores (parcel_of s)) so.links.cores
        ∙ ap (λ l. map parcel_of mid ++ l) (sym (append-nil (parcel_lost (cores_of old) (parcel_of s)))))
        ∙ ap (λ l. map parcel_of before ++ l) (sym (joined-append (parcel_lost (cores_of old)) so.outs (parcel_of s ∷ [])));
  }
