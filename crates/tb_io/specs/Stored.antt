-- What the objects in memory hold.
use Rattle.std.specs.Prelude.{ℕ, ◌-◌, ◌==◌, ◌&&◌, ◌||◌, not, List, length, map, min, Bool, string_bytes, String, Vec}
use Rattle.std.specs.declared.alloc.Global.{Global}
use Rattle.tb_io.specs.Calls.{CallsData, fails_next}
use Rattle.tb_io.specs.Files.{FileList}

-- a folder: its files, and how many bytes one reading gives at most
pub record FolderData : Type 0 where
  pub files : FileList
  pub piece : ℕ
  pub calls : CallsData

-- a source: the bytes that are unread, and how many of them one reading gives at most
pub record SourceData : Type 0 where
  pub left : List ℕ
  pub piece : ℕ
  pub calls : CallsData

-- a sink: the bytes written, how many it has room for in all, and how many it takes at once
pub record SinkData : Type 0 where
  pub written : List ℕ
  pub room : ℕ
  pub piece : ℕ
  pub calls : CallsData

-- the paths' bytes with the files' bytes
abbrev pub stored_files : List (String Global × Vec ℕ Global) → FileList
stored_files fs = map (λ f. (string_bytes f.0, f.1.items)) fs

-- how many bytes of a piece a sink takes
abbrev pub fitting : SinkData → List ℕ → ℕ
fitting sink piece = min sink.piece (min (length piece) (sink.room - length sink.written))

-- a write fails by its number, or for want of room
abbrev pub write_fails : SinkData → List ℕ → Bool
write_fails sink piece =
    fails_next sink.calls || ((fitting sink piece == 0) && not (length piece == 0))
