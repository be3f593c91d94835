-- The rings of a play, core after core.
use Rattle.std.proofs.Common.{◌≡◌, ◌≢◌, ◌<◌, ◌≤◌, ◌+◌, ◌-◌, ◌⊎◌, inl, inr, ℕ, zero, suc, List, [], ◌∷◌, ◌++◌, length, length-append, get_or, set, refl, sym, ap, subst, ◌∙◌, arith}
use Rattle.std.proofs.Math.ListN.{length-set}
use Rattle.std.proofs.lemmas.Bool.{cases_eq}
use Rattle.std.proofs.lemmas.Bool.Decides.{nat_tests}
use Rattle.std.proofs.lemmas.List.{get_or-set_other, get_or-set_same, get_or_append_left}
use Rattle.ix_ring.specs.Ends.{IsRing}
use Rattle.ix_nic.specs.declared.port.NicEnd.{NicEnd}
use Rattle.ix_core.specs.declared.message.CoreEnds.{CoreEnds}
use Rattle.ix_core.specs.declared.message.MeshEnd.{MeshEnd}
use Rattle.ix_core.specs.Meeting.{other_core}
use Rattle.ix_core.specs.Opening.{AreTied, EndsAreNew, IsNewMeshEnd, IsNewPort, IsTiedTo, Joins, TiedSome}
use Rattle.ix_core.specs.Order.{EndsAreInOrder, end_at}
use Rattle.ix_core.proofs.LinkLaws.{get_any}
use Rattle.ix_core.proofs.Units.{one_of}

last_of : {X : Type 0} (xs : List X) (x d : X) (i : ℕ) → length xs ≡ i → get_or (xs ++ x ∷ []) i d ≡ x
last_of [] x d i e = subst (λ (k : ℕ). get_or (x ∷ []) k d ≡ x) e refl
last_of (y ∷ xs) x d zero e = absurd (omega (arith, e))
last_of (y ∷ xs) x d (suc i) e = last_of xs x d i (omega (arith, e))

other_below : (c p : ℕ) → p < c → other_core c p ≡ p
other_below c p lt = grind (arith, nat_tests)

other_above : (c p : ℕ) → c ≤ p → other_core c p ≡ p + 1
other_above c p le = grind (arith, nat_tests)

module _ {U E : Type 0} where
  pub tied_none : (n upper : ℕ) (old : List (CoreEnds U E)) (core : CoreEnds U E) → core.mesh.items ≡ [] → TiedSome n 0 upper old old core core
  tied_none n upper old core alone = record {
    count = refl;
    number = ap length alone;
    cores = λ p e lt. absurd (omega arith);
    downs = λ p e lt. absurd (omega arith);
    done = λ c d e lt. absurd (omega arith);
    rest = λ c d le. refl;
    ends = refl;
  }

  tied_more : (n i upper : ℕ) (old new next : List (CoreEnds U E)) (before after later a x : CoreEnds U E) → i < length new → a ≡ get_or new i a → next ≡ set new i x
      → AreTied n i upper a after x later → TiedSome n i upper old new before after → TiedSome n (i + 1) upper old next before later
  tied_more n i upper old new next before after later a x lt read is t so = record {
    count = ap length is ∙ (length-set new i x ∙ so.count);
    number = omega (arith, ap length t.upper_mesh, length-append after.mesh.items (t.down ∷ []), so.number);
    cores = λ p e h. cores p e h (cases_eq p i);
    downs = λ p e h. downs p e h (cases_eq p i);
    done = λ c d e h. done c d e h (cases_eq c i);
    rest = λ c d le. stays c d (λ same. omega arith) ∙ so.rest c d (omega arith);
    ends = t.upper_rest ∙ ap (λ (k : CoreEnds U E). record k { mesh = later.mesh }) so.ends;
  } where
    stays : (c : ℕ) (d : CoreEnds U E) → c ≢ i → get_or next c d ≡ get_or new c d
    stays c d apart = ap (λ (l : List (CoreEnds U E)). get_or l c d) is ∙ get_or-set_other new i c x d apart

    kept : (p : ℕ) (e : MeshEnd U E) → p < i → get_or later.mesh.items p e ≡ get_or after.mesh.items p e
    kept p e h = ap (λ (l : List (MeshEnd U E)). get_or l p e) t.upper_mesh ∙ get_or_append_left after.mesh.items (t.down ∷ []) e p (omega (arith, h, so.number))

    added : (e : MeshEnd U E) → get_or later.mesh.items i e ≡ t.down
    added e = ap (λ (l : List (MeshEnd U E)). get_or l i e) t.upper_mesh ∙ last_of after.mesh.items t.down e i so.number

    cores : (p : ℕ) (e : MeshEnd U E) → p < i + 1 → (p ≡ i) ⊎ (p ≢ i) → (get_or later.mesh.items p e).core.0 ≡ p
    cores p e h (inl same) = subst (λ (k : ℕ). (get_or later.mesh.items k e).core.0 ≡ k) (sym same) (ap (λ (m : MeshEnd U E). m.core.0) (added e) ∙ t.down_core)
    cores p e h (inr apart) = ap (λ (m : MeshEnd U E). m.core.0) (kept p e (omega arith)) ∙ so.cores p e (omega arith)

    downs : (p : ℕ) (e : MeshEnd U E) → p < i + 1 → (p ≡ i) ⊎ (p ≢ i) → IsNewMeshEnd n (get_or later.mesh.items p e)
    downs p e h (inl same) = subst (λ (k : ℕ). IsNewMeshEnd n (get_or later.mesh.items k e)) (sym same) (subst (λ (m : MeshEnd U E). IsNewMeshEnd n m) (sym (added e)) t.down_is)
    downs p e h (inr apart) = subst (λ (m : MeshEnd U E). IsNewMeshEnd n m) (sym (kept p e (omega arith))) (so.downs p e (omega arith))

    here : (d : CoreEnds U E) (e : MeshEnd U E) → IsTiedTo n upper (get_or later.mesh.items i e) (get_or old i d) (get_or next i d)
    here d e =
        let down : get_or later.mesh.items i e ≡ t.down = added e in
        let was : get_or old i d ≡ a = sym (so.rest i d (omega arith)) ∙ (get_any new i d a lt ∙ sym read) in
        let now : get_or next i d ≡ x = ap (λ (l : List (CoreEnds U E)). get_or l i d) is ∙ get_or-set_same new i x d lt in
        rw (down, was, now) (record { up = t.up; core = t.up_core; is = t.up_is; there = t.there; back = t.back; mesh = t.lower_mesh; rest = t.lower_rest })

    done : (c : ℕ) (d : CoreEnds U E) (e : MeshEnd U E) → c < i + 1 → (c ≡ i) ⊎ (c ≢ i) → IsTiedTo n upper (get_or later.mesh.items c e) (get_or old c d) (get_or next c d)
    done c d e h (inl same) = subst (λ (k : ℕ). IsTiedTo n upper (get_or later.mesh.items k e) (get_or old k d) (get_or next k d)) (sym same) (here d e)
    done c d e h (inr apart) =
        let down : get_or later.mesh.items c e ≡ get_or after.mesh.items c e = kept c e (omega arith) in
        let now : get_or next c d ≡ get_or new c d = stays c d apart in
        rw (down, now) (so.done c d e (omega arith))

  -- the same at a place that is this number
  pub tied_at : (n i upper k : ℕ) (old new next : List (CoreEnds U E)) (before after later a x : CoreEnds U E) → k ≡ i → k < length new → a ≡ get_or new k a → next ≡ set new k x
      → AreTied n i upper a after x later → TiedSome n i upper old new before after → TiedSome n (i + 1) upper old next before later
  tied_at n i upper k old new next before after later a x e lt read is t so =
      tied_more n i upper old new next before after later a x (omega (arith, e, lt)) (read ∙ ap (λ (j : ℕ). get_or new j a) e) (is ∙ ap (λ (j : ℕ). set new j x) e) t so

  pub joins_at : (n i upper : ℕ) (old front new : List (CoreEnds U E)) (core last : CoreEnds U E) → i ≡ length old → upper ≡ length old → new ≡ front ++ last ∷ [] → TiedSome n i upper old front core last
      → Joins n old new core
  joins_at n i upper old front new core last all number whole so = record {
    last = last;
    front = front;
    whole = whole;
    tied = subst (λ (k : ℕ). TiedSome n k (length old) old front core last) all (subst (λ (k : ℕ). TiedSome n i k old front core last) number so);
  }

  pub none_in_order : EndsAreInOrder {U = U} {E = E} [] []
  none_in_order = record {
    count = refl;
    items = λ c p d lt. absurd (omega arith);
    posts = λ c p d lt. absurd (omega arith);
    mesh = record {
      links = λ c d lt. absurd (omega arith);
      others = λ c p d e lt within. absurd (omega arith);
      there = λ a b d e lt within. absurd (omega arith);
      back = λ a b d e lt within. absurd (omega arith);
    };
  }

  pub none_new : (n : ℕ) → EndsAreNew {U = U} {E = E} n [] []
  none_new n = record { ports = λ c p d lt. absurd (omega arith); mesh = λ c p d e lt within. absurd (omega arith) }

  -- one core more: all of them are in order
  module _ (n : ℕ) (card : List NicEnd) (nic : NicEnd) (old new : List (CoreEnds U E)) (core : CoreEnds U E) (m : EndsAreInOrder card old) (f : EndsAreNew n card old) (port : IsNewPort nic core)
      (j : Joins n old new core) where
    pub size : length new ≡ length old + 1
    size = ap length j.whole ∙ (length-append j.front (j.last ∷ []) ∙ omega (arith, (j.tied).count))

    first_at : (c : ℕ) (d : CoreEnds U E) → c < length old → get_or new c d ≡ get_or j.front c d
    first_at c d lt = ap (λ (l : List (CoreEnds U E)). get_or l c d) j.whole ∙ get_or_append_left j.front (j.last ∷ []) d c (omega (arith, lt, (j.tied).count))

    last_at : (c : ℕ) (d : CoreEnds U E) → c ≡ length old → get_or new c d ≡ j.last
    last_at c d e = ap (λ (l : List (CoreEnds U E)). get_or l c d) j.whole ∙ last_of j.front j.last d c ((j.tied).count ∙ sym e)

    tied : (c : ℕ) (d : CoreEnds U E) (e : MeshEnd U E) → c < length old → IsTiedTo n (length old) (get_or (j.last).mesh.items c e) (get_or old c d) (get_or new c d)
    tied c d e lt = subst (λ (k : CoreEnds U E). IsTiedTo n (length old) (get_or (j.last).mesh.items c e) (get_or old c d) k) (sym (first_at c d lt)) ((j.tied).done c d e lt)

    one_end : (c : ℕ) → c < length old → MeshEnd U E
    one_end c lt = one_of (j.last).mesh.items c (omega (arith, lt, (j.tied).number))

    -- an end that was there, and the one that came
    old_end : (c p : ℕ) (d : CoreEnds U E) (e : MeshEnd U E) → c < length old → p + 1 < length old → end_at new c p d e ≡ end_at old c p d e
    old_end c p d e lt within =
        ap (λ (l : List (MeshEnd U E)). get_or l p e) (tied c d e lt).mesh ∙ get_or_append_left (get_or old c d).mesh.items ((tied c d e lt).up ∷ []) e p (omega (arith, within, m.mesh.links c d lt))

    new_end : (c p : ℕ) (d : CoreEnds U E) (e : MeshEnd U E) (lt : c < length old) → p + 1 ≡ length old → end_at new c p d e ≡ (tied c d e lt).up
    new_end c p d e lt is = ap (λ (l : List (MeshEnd U E)). get_or l p e) (tied c d e lt).mesh ∙ last_of (get_or old c d).mesh.items (tied c d e lt).up e p (omega (arith, is, m.mesh.links c d lt))

    last_end : (c p : ℕ) (d : CoreEnds U E) (e : MeshEnd U E) → c ≡ length old → end_at new c p d e ≡ get_or (j.last).mesh.items p e
    last_end c p d e is = ap (λ (k : CoreEnds U E). get_or k.mesh.items p e) (last_at c d is)

    links : (c : ℕ) (d : CoreEnds U E) → c < length new → (c ≡ length old) ⊎ (c ≢ length old) → length (get_or new c d).mesh.items + 1 ≡ length new
    links c d lt (inl is) = omega (arith, ap (λ (k : CoreEnds U E). length k.mesh.items) (last_at c d is), (j.tied).number, size)
    links c d lt (inr apart) =
        let below : c < length old = omega (arith, lt, size, apart) in
        let some = one_end c below in
        let t = tied c d some below in
        omega (arith, ap length t.mesh, length-append (get_or old c d).mesh.items (t.up ∷ []), m.mesh.links c d below, size)

    others : (c p : ℕ) (d : CoreEnds U E) (e : MeshEnd U E) → c < length new → p + 1 < length new → (c ≡ length old) ⊎ (c ≢ length old) → (p + 1 ≡ length old) ⊎ (p + 1 ≢ length old) → (end_at new c p d e).core.0 ≡ other_core c p
    others c p d e lt within (inl is) q =
        ap (λ (k : MeshEnd U E). k.core.0) (last_end c p d e is) ∙ ((j.tied).cores p e (omega (arith, within, size)) ∙ sym (other_below c p (omega (arith, within, size, is))))
    others c p d e lt within (inr apart) (inl is) =
        let below : c < length old = omega (arith, lt, size, apart) in
        ap (λ (k : MeshEnd U E). k.core.0) (new_end c p d e below is) ∙ ((tied c d e below).core ∙ (sym is ∙ sym (other_above c p (omega (arith, below, is)))))
    others c p d e lt within (inr apart) (inr off) =
        let below : c < length old = omega (arith, lt, size, apart) in
        let inside : p + 1 < length old = omega (arith, within, size, off) in
        ap (λ (k : MeshEnd U E). k.core.0) (old_end c p d e below inside) ∙ m.mesh.others c p d e below inside

    there : (a b : ℕ) (d : CoreEnds U E) (e : MeshEnd U E) → a < b → b < length new → (b ≡ length old) ⊎ (b ≢ length old) → IsRing (end_at new a (b - 1) d e).put (end_at new b a d e).take
    there a b d e lt within (inl is) =
        let below : a < length old = omega (arith, lt, is) in
        let up : end_at new a (b - 1) d e ≡ (tied a d e below).up = new_end a (b - 1) d e below (omega (arith, lt, is)) in
        let down : end_at new b a d e ≡ get_or (j.last).mesh.items a e = last_end b a d e is in
        ap (λ (k : MeshEnd U E). k.put.ring) up ∙ ((tied a d e below).there ∙ sym (ap (λ (k : MeshEnd U E). k.take.ring) down))
    there a b d e lt within (inr apart) =
        let below : b < length old = omega (arith, within, size, apart) in
        let up : end_at new a (b - 1) d e ≡ end_at old a (b - 1) d e = old_end a (b - 1) d e (omega (arith, lt, below)) (omega (arith, lt, below)) in
        let down : end_at new b a d e ≡ end_at old b a d e = old_end b a d e below (omega (arith, lt, below)) in
        ap (λ (k : MeshEnd U E). k.put.ring) up ∙ (m.mesh.there a b d e lt below ∙ sym (ap (λ (k : MeshEnd U E). k.take.ring) down))

    back : (a b : ℕ) (d : CoreEnds U E) (e : MeshEnd U E) → a < b → b < length new → (b ≡ length old) ⊎ (b ≢ length old) → IsRing (end_at new b a d e).put (end_at new a (b - 1) d e).take
    back a b d e lt within (inl is) =
        let below : a < length old = omega (arith, lt, is) in
        let up : end_at new a (b - 1) d e ≡ (tied a d e below).up = new_end a (b - 1) d e below (omega (arith, lt, is)) in
        let down : end_at new b a d e ≡ get_or (j.last).mesh.items a e = last_end b a d e is in
        ap (λ (k : MeshEnd U E). k.put.ring) down ∙ ((tied a d e below).back ∙ sym (ap (λ (k : MeshEnd U E). k.take.ring) up))
    back a b d e lt within (inr apart) =
        let below : b < length old = omega (arith, within, size, apart) in
        let up : end_at new a (b - 1) d e ≡ end_at old a (b - 1) d e = old_end a (b - 1) d e (omega (arith, lt, below)) (omega (arith, lt, below)) in
        let down : end_at new b a d e ≡ end_at old b a d e = old_end b a d e below (omega (arith, lt, below)) in
        ap (λ (k : MeshEnd U E). k.put.ring) down ∙ (m.mesh.back a b d e lt below ∙ sym (ap (λ (k : MeshEnd U E). k.take.ring) up))

    fresh : (c p : ℕ) (d : CoreEnds U E) (e : MeshEnd U E) → c < length new → p + 1 < length new → (c ≡ length old) ⊎ (c ≢ length old) → (p + 1 ≡ length old) ⊎ (p + 1 ≢ length old) → IsNewMeshEnd n (end_at new c p d e)
    fresh c p d e lt within (inl is) q = subst (λ (k : MeshEnd U E). IsNewMeshEnd n k) (sym (last_end c p d e is)) ((j.tied).downs p e (omega (arith, within, size)))
    fresh c p d e lt within (inr apart) (inl is) =
        let below : c < length old = omega (arith, lt, size, apart) in
        subst (λ (k : MeshEnd U E). IsNewMeshEnd n k) (sym (new_end c p d e below is)) (tied c d e below).is
    fresh c p d e lt within (inr apart) (inr off) =
        let below : c < length old = omega (arith, lt, size, apart) in
        let inside : p + 1 < length old = omega (arith, within, size, off) in
        subst (λ (k : MeshEnd U E). IsNewMeshEnd n k) (sym (old_end c p d e below inside)) (f.mesh c p d e below inside)

    ports : (c : ℕ) (p : NicEnd) (d : CoreEnds U E) → c < length new → (c ≡ length old) ⊎ (c ≢ length old) → IsNewPort (get_or (card ++ nic ∷ []) c p) (get_or new c d)
    ports c p d lt (inl is) =
        let at_card : get_or (card ++ nic ∷ []) c p ≡ nic = last_of card nic p c (m.count ∙ sym is) in
        let at_core : get_or new c d ≡ record core { mesh = (j.last).mesh } = last_at c d is ∙ (j.tied).ends in
        rw (at_card, at_core) (record { items = port.items; posts = port.posts; items_put = port.items_put; items_take = port.items_take; posts_put = port.posts_put; posts_take = port.posts_take })
    ports c p d lt (inr apart) =
        let below : c < length old = omega (arith, lt, size, apart) in
        let was = f.ports c p d below in
        let at_card : get_or (card ++ nic ∷ []) c p ≡ get_or card c p = get_or_append_left card (nic ∷ []) p c (omega (arith, below, m.count)) in
        let some = one_end c below in
        let at_core : get_or new c d ≡ record (get_or old c d) { mesh = (get_or new c d).mesh } = (tied c d some below).rest in
        let one : IsNewPort (get_or card c p) (record (get_or old c d) { mesh = (get_or new c d).mesh }) =
        record { items = was.items; posts = was.posts; items_put = was.items_put; items_take = was.items_take; posts_put = was.posts_put; posts_take = was.posts_take } in
        subst (λ (v : NicEnd). IsNewPort v (get_or new c d)) (sym at_card) (subst (λ (k : CoreEnds U E). IsNewPort (get_or card c p) k) (sym at_core) one)

    pub in_order_more : EndsAreInOrder (card ++ nic ∷ []) new
    in_order_more = record {
      count = length-append card (nic ∷ []) ∙ omega (arith, m.count, size);
      items = λ c p d lt. (ports c p d lt (cases_eq c (length old))).items;
      posts = λ c p d lt. (ports c p d lt (cases_eq c (length old))).posts;
      mesh = record {
        links = λ c d lt. links c d lt (cases_eq c (length old));
        others = λ c p d e lt within. others c p d e lt within (cases_eq c (length old)) (cases_eq (p + 1) (length old));
        there = λ a b d e lt within. there a b d e lt within (cases_eq b (length old));
        back = λ a b d e lt within. back a b d e lt within (cases_eq b (length old));
      };
    }

    pub new_more : EndsAreNew n (card ++ nic ∷ []) new
    new_more = record {
      ports = λ c p d lt. ports c p d lt (cases_eq c (length old));
      mesh = λ c p d e lt within. fresh c p d e lt within (cases_eq c (length old)) (cases_eq (p + 1) (length old));
    }
