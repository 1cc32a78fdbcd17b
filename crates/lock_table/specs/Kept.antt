-- What is always so of grants that are filed, where they stand and who shares them.
use Rattle.std.specs.Prelude.{List}
use Rattle.std.specs.List.{IsDistinct}
use Rattle.std.specs.Map.{keys_of}
use Rattle.lock_table.specs.Filed.{Entry, is_key}
use Rattle.lock_table.specs.Index.{IsIndexed, Places}
use Rattle.lock_table.specs.Sharers.{IsShared, Shared}

-- no key is there twice, each grant stands where its holder's do, and is counted on its resource
pub record IsKept (es : List Entry) (places : Places) (shared : Shared) : Type 0 where
  pub once : IsDistinct is_key (keys_of es)
  pub placed : IsIndexed es places
  pub counted : IsShared es shared
