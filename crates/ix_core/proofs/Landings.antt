-- Units that came go to the desks.
use Rattle.std.proofs.Common.{◌≡◌, ℕ, Bool, true, List, [], ◌∷◌, ◌++◌, map, refl, sym, ap, ◌∙◌, append_assoc}
use Rattle.std.proofs.lemmas.List.{map-append}
use Rattle.ix_mbuf.specs.Buffers.{Buffer}
use Rattle.ix_desk.specs.declared.unit.Shipment.{Shipment}
use Rattle.ix_desk.specs.Views.{View}
use Rattle.ix_desk.specs.Desks.{welcome_at}
use Rattle.ix_stack.specs.declared.work.Work.{Work}
use Rattle.ix_desk.specs.Groups.{landed}
use Rattle.ix_desk.specs.Desks.{group_at, with_group}
use Rattle.ix_core.specs.Runs.{Calm, calm-joins, calm-landed, calm-stays}
use Rattle.ix_core.specs.Landing.{parcel_of, landing_of, Landed}

module _ {U E : Type 0} (counted : Work → Bool) (name : Work → ℕ) (stepped : U → List (ℕ × ℕ)) (advanced : U → E → ℕ → List Work → U → Type 0) (drained : U → List Buffer → U → Type 0) (env : E) where
  pub lands-none : (place : ℕ) (x : View U Work) (before : List (Shipment U Work E)) → Landed counted name stepped advanced drained env place x x before before
  lands-none place x before = record { ships = []; run = calm-stays counted name stepped advanced drained env x; whole = refl }

  pub lands-one : (place : ℕ) (x y z : View U Work) (before after rest : List (Shipment U Work E)) (s : Shipment U Work E)
      → Landed counted name stepped advanced drained env place x y before after → after ≡ s ∷ rest → welcome_at y s.group.0 s.tenure s.to.0 ≡ true → z ≡ with_group y s.group.0 (landed (group_at y s.group.0) (record { tenure = s.tenure; unit = s.unit; queue = s.queue }))
      → Landed counted name stepped advanced drained env place x z before rest
  lands-one place x y z before after rest s so next f e =
      let one = calm-landed counted name stepped advanced drained env y z place (parcel_of s) f e in
      let all : Calm counted name stepped advanced drained env x z [] (map (landing_of place) so.ships ++ landing_of place s ∷ []) [] [] = calm-joins counted name stepped advanced drained env x y z [] [] (map (landing_of place) so.ships) (landing_of place s ∷ []) [] [] [] [] so.run one in
      record {
        ships = so.ships ++ s ∷ [];
        run = rw map-append all;
        whole = so.whole ∙ ap (λ ws. so.ships ++ ws) next ∙ sym (append_assoc so.ships (s ∷ []) rest);
      }
