-- The calls that are live (WebAssembly Core 1.0, section 4.2.12), and where the code goes on.
use Rattle.std.specs.Prelude.{ℕ, List, ◌∷◌, length, take}
use Rattle.wasm_store.specs.declared.calls.Frame.{Frame}

-- the body and the place of the operator that runs next, the cells counted for all live calls, and their frames, the last one first
pub record Calls : Type 0 where
  pub function : ℕ
  pub place : ℕ
  pub used : ℕ
  pub frames : List Frame

-- the frame of the call that runs lies on those of its callers; the lowest of these belongs to no call
abbrev pub frames_of : Frame → (callers : List Frame) → List Frame
frames_of live callers = take (length callers) (live ∷ callers)
