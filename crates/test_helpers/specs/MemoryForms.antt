-- What the memory forms show.
use Rattle.std.specs.Prelude.{ℕ, List, Option, Some, Bool, is_some}
use Rattle.test_helpers.specs.declared.memory.MemoryShelf.{MemoryShelf}
use Rattle.test_helpers.specs.declared.memory.MemorySink.{MemorySink}
use Rattle.test_helpers.specs.CallPlan.{CallPlan}
use Rattle.test_helpers.specs.Files.{file_of, left_of}
use Rattle.rwsp_io.specs.Told.{Told}

-- what is held under each name
abbrev pub shelf_held : MemoryShelf → List ℕ → Told
shelf_held s = file_of s.files.items

-- whether a name is chosen
abbrev pub shelf_chosen : MemoryShelf → Bool
shelf_chosen s = is_some s.at

-- the bytes left of the chosen name
abbrev pub shelf_left : MemoryShelf → Option (List ℕ)
shelf_left s = left_of s.files.items s.at

-- all names are counted together
abbrev pub shelf_faults : MemoryShelf → List ℕ → ℕ
shelf_faults s name = s.faults

-- the calls of `choose` and `take`, counted together
abbrev pub shelf_calls : MemoryShelf → CallPlan
shelf_calls s = s.calls

-- how many bytes a take gives at most
abbrev pub shelf_step : MemoryShelf → ℕ
shelf_step s = s.step

-- the bytes that were put
abbrev pub sink_got : MemorySink → Option (List ℕ)
sink_got s = Some s.bytes.items

-- how often a put has failed
abbrev pub sink_faults : MemorySink → ℕ
sink_faults s = s.faults

-- the calls of `put`
abbrev pub sink_calls : MemorySink → CallPlan
sink_calls s = s.calls

-- how many bytes there is room for
abbrev pub sink_room : MemorySink → ℕ
sink_room s = s.room

-- how many bytes a put takes at most
abbrev pub sink_step : MemorySink → ℕ
sink_step s = s.step
