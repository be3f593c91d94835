-- Calls and returns as plain data, and the buffers in them.
use Rattle.std.specs.Prelude.{ℕ, List, [], Option, Some, None, sum_by}
use Rattle.ix_mbuf.specs.declared.name.Name.{Name}
use Rattle.ix_base.specs.declared.id.Handle.{Handle}
use Rattle.ix_call.specs.declared.chunk.Chunk.{Chunk}
use Rattle.ix_call.specs.declared.call.Call.{Call}
use Rattle.ix_call.specs.declared.call.Call.TheVariants.{Connect, Accept, Sendv, RecvDone, Close}
use Rattle.ix_call.specs.declared.call.CallRet.{CallRet}
use Rattle.ix_call.specs.Chunks.{chunks_weight, chunks_names}

abbrev pub call_handle : Call → Option Handle
call_handle (Connect cookie ip port) = None
call_handle (Accept handle cookie) = Some handle
call_handle (Sendv handle chunks) = Some handle
call_handle (RecvDone handle bytes) = Some handle
call_handle (Close handle) = Some handle

abbrev pub call_chunks : Call → List Chunk
call_chunks (Connect cookie ip port) = []
call_chunks (Accept handle cookie) = []
call_chunks (Sendv handle chunks) = chunks
call_chunks (RecvDone handle bytes) = []
call_chunks (Close handle) = []

-- only the chunks of a `Sendv` hold buffers
abbrev pub call_weight : (Name → ℕ) → Call → ℕ
call_weight f c = chunks_weight f (call_chunks c)

abbrev pub call_names : Call → List Name
call_names c = chunks_names (call_chunks c)

abbrev pub calls_weight : (Name → ℕ) → List Call → ℕ
calls_weight f calls = sum_by (call_weight f) calls

-- a return holds the buffers of what it hands back
abbrev pub return_weight : (Name → ℕ) → CallRet → ℕ
return_weight f r = chunks_weight f r.back

abbrev pub return_names : CallRet → List Name
return_names r = chunks_names r.back

abbrev pub returns_weight : (Name → ℕ) → List CallRet → ℕ
returns_weight f returns = sum_by (return_weight f) returns
