-- The rings of a play at its opening.
use Rattle.std.specs.Prelude.{◌≡◌, ◌<◌, ◌≤◌, ◌+◌, ◌++◌, ◌∷◌, [], ℕ, List, length, slice_index_or}
use Rattle.ix_ring.specs.Views.{PutView, TakeView}
use Rattle.ix_ring.specs.Ends.{IsRing, known, places, put_list, spare, taken}
use Rattle.ix_nic.specs.declared.port.NicEnd.{NicEnd}
use Rattle.ix_core.specs.declared.message.CoreEnds.{CoreEnds}
use Rattle.ix_core.specs.declared.message.MeshEnd.{MeshEnd}
use Rattle.ix_core.specs.Order.{end_at}

-- Nothing was put, and all of so many places are known to be free.
pub record IsNewPutEnd {T : Type 0} (n : ℕ) (p : PutView T) : Type 0 where
  pub none : put_list p ≡ []
  pub room : spare p ≡ n
  pub all : places p ≡ n

-- Nothing was taken, and nothing is known.
pub record IsNewTakeEnd {T : Type 0} (t : TakeView T) : Type 0 where
  pub none : taken t ≡ []
  pub empty : known t ≡ []

module _ {U E : Type 0} where
  -- the two ends that a core has to another
  pub record IsNewMeshEnd (n : ℕ) (e : MeshEnd U E) : Type 0 where
    pub put : IsNewPutEnd n e.put
    pub take : IsNewTakeEnd e.take

  -- the two rings between the card and one core
  pub record IsNewPort (p : NicEnd) (c : CoreEnds U E) : Type 0 where
    pub items : IsRing p.items c.items
    pub posts : IsRing c.posted p.posted
    pub items_put : IsNewPutEnd 512 p.items
    pub items_take : IsNewTakeEnd c.items
    pub posts_put : IsNewPutEnd 512 c.posted
    pub posts_take : IsNewTakeEnd p.posted

  -- nothing was put on a ring: the receive and posting rings have 512 places, those of the mesh so many
  pub record EndsAreNew (n : ℕ) (card : List NicEnd) (cores : List (CoreEnds U E)) : Type 0 where
    pub ports : (c : ℕ) (p : NicEnd) (d : CoreEnds U E) → c < length cores → IsNewPort (slice_index_or card c p) (slice_index_or cores c d)
    pub mesh : (c p : ℕ) (d : CoreEnds U E) (e : MeshEnd U E) → c < length cores → p + 1 < length cores → IsNewMeshEnd n (end_at cores c p d e)

  -- ## A core that comes to others
  -- Two cores have new rings between them: each has one more end, to the other.
  pub record AreTied (n lower upper : ℕ) (a b x y : CoreEnds U E) : Type 0 where
    pub up : MeshEnd U E
    pub down : MeshEnd U E
    pub up_core : up.core.0 ≡ upper
    pub down_core : down.core.0 ≡ lower
    pub up_is : IsNewMeshEnd n up
    pub down_is : IsNewMeshEnd n down
    pub there : IsRing up.put down.take
    pub back : IsRing down.put up.take
    pub lower_mesh : x.mesh.items ≡ a.mesh.items ++ up ∷ []
    pub upper_mesh : y.mesh.items ≡ b.mesh.items ++ down ∷ []
    pub lower_rest : x ≡ record a { mesh = x.mesh }
    pub upper_rest : y ≡ record b { mesh = y.mesh }

  -- a core has one more end, whose other end is this one
  pub record IsTiedTo (n upper : ℕ) (down : MeshEnd U E) (old new : CoreEnds U E) : Type 0 where
    pub up : MeshEnd U E
    pub core : up.core.0 ≡ upper
    pub is : IsNewMeshEnd n up
    pub there : IsRing up.put down.take
    pub back : IsRing down.put up.take
    pub mesh : new.mesh.items ≡ old.mesh.items ++ up ∷ []
    pub rest : new ≡ record old { mesh = new.mesh }

  -- the first cores have rings to the one that comes, which has an end to each of them
  pub record TiedSome (n i upper : ℕ) (old new : List (CoreEnds U E)) (before after : CoreEnds U E) : Type 0 where
    pub count : length new ≡ length old
    pub number : length after.mesh.items ≡ i
    pub cores : (p : ℕ) (e : MeshEnd U E) → p < i → (slice_index_or after.mesh.items p e).core.0 ≡ p
    pub downs : (p : ℕ) (e : MeshEnd U E) → p < i → IsNewMeshEnd n (slice_index_or after.mesh.items p e)
    pub done : (c : ℕ) (d : CoreEnds U E) (e : MeshEnd U E) → c < i → IsTiedTo n upper (slice_index_or after.mesh.items c e) (slice_index_or old c d) (slice_index_or new c d)
    pub rest : (c : ℕ) (d : CoreEnds U E) → i ≤ c → slice_index_or new c d ≡ slice_index_or old c d
    pub ends : after ≡ record before { mesh = after.mesh }

  -- all of them do, and it stands behind them
  pub record Joins (n : ℕ) (old new : List (CoreEnds U E)) (core : CoreEnds U E) : Type 0 where
    pub last : CoreEnds U E
    pub front : List (CoreEnds U E)
    pub whole : new ≡ front ++ last ∷ []
    pub tied : TiedSome n (length old) (length old) old front core last
