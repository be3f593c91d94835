-- A card and its cores at the opening.
use Rattle.std.proofs.Common.{◌≡◌, ◌≢◌, ◌<◌, ◌-◌, ◌%◌, ◌⊎◌, inl, inr, ℕ, zero, suc, false, List, [], ◌∷◌, ◌++◌, length, length-append, map, get_or, refl, sym, ap, subst, ◌∙◌, arith}
use Rattle.std.proofs.lemmas.Bool.{cases_eq}
use Rattle.std.proofs.lemmas.List.{get_or-append_right, get_or_append_left}
use Rattle.std.proofs.lemmas.Nat.{mod_below}
use Rattle.ix_ring.specs.Ends.{places}
use Rattle.ix_reta.specs.Table.{core_from}
use Rattle.ix_nic.specs.declared.port.NicEnd.{NicEnd}
use Rattle.ix_nic.specs.Cards.{AreOpen, CardView, core_at, opened}
use Rattle.ix_nic.specs.Ports.{PortView}
use Rattle.ix_core.specs.declared.message.CoreEnds.{CoreEnds}
use Rattle.ix_core.specs.declared.turning.Core.{Core}
use Rattle.ix_core.specs.Opening.{EndsAreNew}
use Rattle.ix_core.specs.Order.{AreOpenedAs, EndsAreInOrder, IsOpenedAs}
use Rattle.ix_drill.specs.Quiet.{ArePlaced}

-- the groups at the opening
pub spread_within : (live room group : ℕ) → 0 < live → (core_at (record { live = live; turns = []; room = room }) group).0 < live
unfolding core_from
spread_within live room group some = mod_below (group % 128) live some

pub opened_count : (ends : List NicEnd) → length (map opened ends) ≡ length ends
opened_count [] = refl
opened_count (e ∷ es) = let rest = opened_count es in omega (arith, rest)

opened_at : (ends : List NicEnd) (r : ℕ) (d : PortView) (e : NicEnd) → r < length ends → get_or (map opened ends) r d ≡ opened (get_or ends r e)
opened_at [] r d e lt = absurd (omega arith)
opened_at (x ∷ es) zero d e lt = refl
opened_at (x ∷ es) (suc r) d e lt = opened_at es r d e (omega arith)

pub opened_open : (card : CardView) (ends : List NicEnd) → card.ports ≡ map opened ends → AreOpen card.ports
opened_open card ends is = λ r d lt. ap (λ (ports : List PortView). (get_or ports r d).ended) is ∙ at ends r d (omega (arith, lt, ap (λ (l : List PortView). length l) is)) where
  at : (ends : List NicEnd) (r : ℕ) (d : PortView) → r < length (map opened ends) → (get_or (map opened ends) r d).ended ≡ false
  at [] r d lt = absurd (omega arith)
  at (e ∷ es) zero d lt = refl
  at (e ∷ es) (suc r) d lt = at es r d (omega (arith, lt))

zeroth : (a b : ℕ) → a ≡ b → a - b ≡ 0
zeroth a b e = omega (arith, e)

first_of : {X : Type 0} (xs : List X) → 0 < length xs → X
first_of [] lt = absurd (omega arith)
first_of (x ∷ xs) lt = x

module _ {U E : Type 0} where
  pub placed_new : (n : ℕ) (card : CardView) (card_ends : List NicEnd) (ends : List (CoreEnds U E)) (cores : List (Core U E)) → card.ports ≡ map opened card_ends → EndsAreInOrder card_ends ends
      → EndsAreNew n card_ends ends → AreOpenedAs ends cores → ArePlaced card cores
  placed_new n card card_ends ends cores is order new opened_as c p d lt =
      let in_ends : c < length ends = omega (arith, lt, opened_as.count) in
      let in_card : c < length card_ends = omega (arith, in_ends, order.count) in
      let e = first_of ends (omega (arith, in_ends)) in
      let f = first_of card_ends (omega (arith, in_card)) in
      let port : get_or card.ports c p ≡ opened (get_or card_ends c f) = ap (λ (ports : List PortView). get_or ports c p) is ∙ opened_at card_ends c p f in_card in
      let fresh = new.ports c f e in_ends in
      (ap (λ (q : PortView). places q.ring) port ∙ fresh.items_put.all, ap (λ (q : _). places q) (opened_as.each c e d lt).is.posted ∙ fresh.posts_put.all)

  -- ## Cores that are opened one after the other
  pub opened_none : (cores : List (Core U E)) → cores ≡ [] → AreOpenedAs [] cores
  opened_none cores none = record { count = ap length none; each = λ c e d lt. absurd (omega (arith, lt, ap length none)) }

  pub opened_more : (ends : List (CoreEnds U E)) (cores after : List (Core U E)) (end : CoreEnds U E) (core : Core U E) → after ≡ cores ++ core ∷ [] → IsOpenedAs (length cores) end core → AreOpenedAs ends cores
      → AreOpenedAs (ends ++ end ∷ []) after
  opened_more ends cores after end core is one so = rw is (record { count = omega (arith, so.count, length-append cores (core ∷ []), length-append ends (end ∷ [])); each = λ c e d lt. at c e d lt (cases_eq c (length cores)) }) where
    at : (c : ℕ) (e : CoreEnds U E) (d : Core U E) → c < length (cores ++ core ∷ []) → (c ≡ length cores) ⊎ (c ≢ length cores) → IsOpenedAs c (get_or (ends ++ end ∷ []) c e) (get_or (cores ++ core ∷ []) c d)
    at c e d lt (inl same) =
        let last : get_or (cores ++ core ∷ []) c d ≡ core = get_or-append_right cores (core ∷ []) (length cores) c d refl (omega (arith, same)) ∙ ap (λ k. get_or (core ∷ []) k d) (zeroth c (length cores) same) in
        let its : get_or (ends ++ end ∷ []) c e ≡ end = get_or-append_right ends (end ∷ []) (length ends) c e refl (omega (arith, same, so.count)) ∙ ap (λ k. get_or (end ∷ []) k e) (zeroth c (length ends) (same ∙ so.count)) in
        rw (last, its) (subst (λ n. IsOpenedAs n end core) (sym same) one)
    at c e d lt (inr apart) =
        let within : c < length cores = omega (arith, lt, length-append cores (core ∷ []), apart) in
        rw (get_or_append_left cores (core ∷ []) d c within, get_or_append_left ends (end ∷ []) e c (omega (arith, within, so.count))) (so.each c e d within)
