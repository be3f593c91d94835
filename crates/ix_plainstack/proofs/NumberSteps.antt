-- One step of each loop over parts, held segments and connections.
use Rattle.std.proofs.Common.{◌≡◌, ℕ, ◌+◌, ◌<◌, ◌≤◌, refl, sym, ap, ◌∙◌, Bool, true, false, List, [], ◌∷◌, ◌++◌, length, get_or, drop, map, append_assoc, append-nil}
use Rattle.std.specs.Prelude.{if◌then◌else◌}
use Rattle.std.specs.List.{flat_map}
use Rattle.std.proofs.lemmas.List.{drop_more, drop_all}
use Rattle.ix_base.specs.declared.id.WireNo.{WireNo}
use Rattle.ix_tcpdef.specs.declared.types.HeldSegment.{HeldSegment}
use Rattle.ix_tcpdef.specs.declared.types.Piece.{Piece}
use Rattle.ix_groupdef.specs.Life.{Life}
use Rattle.ix_groupdef.specs.Owners.{ended_from}
use Rattle.ix_plainstack.specs.Numbers.{numbers_where}

where_if : (b : Bool) (w : WireNo) (ws : List WireNo) → (if b then w ∷ [] else []) ++ ws ≡ (if b then w ∷ ws else ws)
where_if true w ws = refl
where_if false w ws = refl

pub parts-next : (test : ℕ → Bool) (ps : List Piece) (i : ℕ) (d : Piece) (told end : ℕ) (ws : List WireNo) → i < length ps → end ≡ told + length (get_or ps i d).bytes
    → (ws ++ (if test end then (get_or ps i d).w ∷ [] else [])) ++ numbers_where test (ended_from end (drop (i + 1) ps)) ≡ ws ++ numbers_where test (ended_from told (drop i ps))
parts-next test ps i d told end ws lt e =
    append_assoc ws (if test end then (get_or ps i d).w ∷ [] else []) (numbers_where test (ended_from end (drop (i + 1) ps)))
    ∙ ap (λ vs. ws ++ vs) (where_if (test end) (get_or ps i d).w (numbers_where test (ended_from end (drop (i + 1) ps))))
    ∙ ap (λ n. ws ++ (if test n then (get_or ps i d).w ∷ numbers_where test (ended_from n (drop (i + 1) ps)) else numbers_where test (ended_from n (drop (i + 1) ps)))) e
    ∙ ap (λ qs. ws ++ numbers_where test (ended_from told qs)) (sym (drop_more ps i d lt))

pub parts-none : (test : ℕ → Bool) (ps : List Piece) (i told : ℕ) (ws : List WireNo) → length ps ≤ i → ws ++ numbers_where test (ended_from told (drop i ps)) ≡ ws
parts-none test ps i told ws le = ap (λ qs. ws ++ numbers_where test (ended_from told qs)) (drop_all i ps le) ∙ append-nil ws

pub ruleset for_parts = (parts-next, parts-none)

pub held-next : (hs : List HeldSegment) (i : ℕ) (d : HeldSegment) (ws : List WireNo) → i < length hs
    → (ws ++ (get_or hs i d).w ∷ []) ++ map (λ (h : HeldSegment). h.w) (drop (i + 1) hs) ≡ ws ++ map (λ (h : HeldSegment). h.w) (drop i hs)
held-next hs i d ws lt =
    append_assoc ws ((get_or hs i d).w ∷ []) (map (λ (h : HeldSegment). h.w) (drop (i + 1) hs)) ∙ ap (λ ks. ws ++ map (λ (h : HeldSegment). h.w) ks) (sym (drop_more hs i d lt))

pub held-none : (hs : List HeldSegment) (i : ℕ) (ws : List WireNo) → length hs ≤ i → ws ++ map (λ (h : HeldSegment). h.w) (drop i hs) ≡ ws
held-none hs i ws le = ap (λ ks. ws ++ map (λ (h : HeldSegment). h.w) ks) (drop_all i hs le) ∙ append-nil ws

pub ruleset for_held = (held-next, held-none)

pub lives-next : (f : Life → List WireNo) (ls : List Life) (i : ℕ) (d : Life) (ws : List WireNo) → i < length ls → (ws ++ f (get_or ls i d)) ++ flat_map f (drop (i + 1) ls) ≡ ws ++ flat_map f (drop i ls)
lives-next f ls i d ws lt =
    append_assoc ws (f (get_or ls i d)) (flat_map f (drop (i + 1) ls)) ∙ ap (λ ks. ws ++ flat_map f ks) (sym (drop_more ls i d lt))

pub lives-none : (f : Life → List WireNo) (ls : List Life) (i : ℕ) (ws : List WireNo) → length ls ≤ i → ws ++ flat_map f (drop i ls) ≡ ws
lives-none f ls i ws le = ap (λ ks. ws ++ flat_map f ks) (drop_all i ls le) ∙ append-nil ws

pub ruleset for_lives = (lives-next, lives-none)
