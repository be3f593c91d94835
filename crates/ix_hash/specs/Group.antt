-- The group of a flow, and of what names a flow or none.
use Rattle.std.specs.Prelude.{ℕ, ◌%◌, List, ◌++◌, Option, Some, None}
use Rattle.byteorder.specs.Endian.{big_bytes}
use Rattle.ix_base.specs.declared.id.Flow.{Flow}
use Rattle.ix_base.specs.declared.id.TheConstants.{FLOW_GROUPS}
use Rattle.ix_hash.specs.Key.{key}
use Rattle.ix_hash.specs.Toeplitz.{hash_of}

-- what is hashed of a flow, in network order
abbrev pub flow_bytes : Flow → List ℕ
flow_bytes f = big_bytes 4 f.remote ++ big_bytes 4 f.local ++ big_bytes 2 f.remote_port ++ big_bytes 2 f.local_port

abbrev pub hash_of_flow : Flow → ℕ
hash_of_flow f = hash_of key (flow_bytes f)

-- the low nine bits of its hash
abbrev pub group_of_flow : Flow → ℕ
group_of_flow f = hash_of_flow f % FLOW_GROUPS

-- the group of what names this flow; what names none is of group 0
abbrev pub group_of_named : Option Flow → ℕ
group_of_named None = 0
group_of_named (Some f) = group_of_flow f
