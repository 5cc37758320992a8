-- What is written of a world with one frame, and what that file gives back.
use Rattle.std.specs.Prelude.{◌≡◌, ℕ, List, [], ◌++◌, length, Ok}
use Rattle.bfm_world.specs.Configuration.{Configuration}
use Rattle.bfm_writer.specs.Header.{header_text}
use Rattle.bfm_writer.specs.Text.{group_text}
use Rattle.bfm_commands.specs.Verdict.{verdict_of}
use Rattle.bfm_commands.specs.declared.loaded.Loaded.{Loaded}

-- the header of the world, and a group of that time
abbrev pub world_text : Configuration → ℕ → List ℕ
world_text w mcs = header_text w ++ group_text w mcs []

-- what a file gives that holds the world in one frame of that time, all of which is kept
abbrev pub loaded_back : Configuration → ℕ → Loaded
loaded_back w mcs = record {
  world = w;
  first = w.positions;
  mcs = mcs;
  frames = 1;
  kept = length (world_text w mcs);
  total = length (world_text w mcs);
  skipped = 0;
}

-- The file is accepted, and gives the same world: its box, set, positions, table of contacts, bonds, labels, valences and fixed monomers.
abbrev pub IsReadBack : Configuration → ℕ → Type 0
IsReadBack w mcs = verdict_of (world_text w mcs) ≡ Ok (loaded_back w mcs)
