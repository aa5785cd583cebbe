-- Files in memory.
use Rattle.std.specs.Prelude.{◌≡◌, ℕ, ◌+◌, ◌-◌, ◌^◌, min, List, Vec, String, Bool, ◌||◌, ◌==◌, IsTrue, is_none, ◌↔◌, IsErrOf}
use Rattle.std.specs.List.{list_any}
use Rattle.std.specs.declared.alloc.Global.{Global}
use Rattle.std.specs.BTreeMap.{BTreeMap, get_by_text}
use Rattle.px_io.specs.declared.files.FileFault.TheVariants.{Failed}
use Rattle.px_io.specs.declared.map_files.MapFiles.{MapFiles}
use Rattle.px_io.specs.Reads.{Given}

-- no call was made and nothing has failed; these are the contents, and the calls that fail
pub record IsNew (s : MapFiles) (contents : BTreeMap (String Global) (Vec ℕ Global)) (failing : List ℕ) : Type 0 where
  pub contents_are : s.contents ≡ contents
  pub failing_is : s.failing.items ≡ failing
  pub first : s.calls ≡ 0
  pub unfailed : s.faults ≡ 0

-- a read of this path fails now: the map lacks the path, or the call's number is listed
abbrev pub fails : MapFiles → List ℕ → Bool
fails s path = is_none (get_by_text s.contents path) || list_any (λ call. call == s.calls) s.failing.items

-- a read of this path may give this, and leaves that: the next call
pub record Gives (s : MapFiles) (path : List ℕ) (given : Given) (t : MapFiles) : Type 0 where
  pub contents_stay : t.contents ≡ s.contents
  pub failing_stays : t.failing ≡ s.failing
  pub counted : t.calls ≡ min (s.calls + 1) (2 ^ 64 - 1)
  pub failed : IsErrOf given Failed ↔ IsTrue (fails s path)
