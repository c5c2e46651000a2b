-- What the functions of the search are lent: how long each slice is, and what stands in it.
--   Tables rows enter
--                   the states by state and by letter, a word for each of 64
--   ByIndex key arcs index
--                   arcs, no more than there may be, and an index of them by a record of each
--   Queue next list entry
--                   the words of the states, the list of the records that have one, and an entry for them
--   Numbers n work seen
--                   a number for each state of n records, and a word of the states seen for each record
--   Between ends work
--                   two of n records, and a number for each state of a record
--   CrossAsked, ChooseAsked, WalkAsked, CommitAsked, LevelsAsked, SearchAsked, ReachAsked, ChainAsked, EndsAsked
--                   what the functions ask: to cross the arcs of an entry's record, to choose one of them, to walk a route, to commit a level, to make
--                   the levels, to search along arcs both ways, and forward alone; and to do so over links
-- Assumes nothing: these are definitions.
use Rattle.std.specs.Prelude.{◌≡◌, List, ℕ, ◌+◌, ◌*◌, ◌<◌, ◌≤◌, length}
use Rattle.book.specs.Causes.{max_records, max_links}
use Rattle.arcs.specs.Arcs.{max_arcs, arc_from}
use Rattle.arcs.specs.Index.{Indexed}
use Rattle.search.specs.Frontiers.{Listed, Zero}
use Rattle.search.specs.declared.Ends.{Ends}
use Rattle.search.specs.declared.Entry.{Entry}
use Rattle.search.specs.declared.Route.{Route}
use Rattle.search.specs.declared.Aim.{Aim}

pub record Tables (rows enter : List ℕ) : Type 0 where
  pub rows_long : length rows ≡ 64
  pub enter_long : length enter ≡ 64

pub record ByIndex (key : List ℕ → ℕ → ℕ) (arcs index : List ℕ) : Type 0 where
  pub few : length arcs ≤ max_arcs
  pub long : max_records + length arcs ≤ length index
  pub indexed : Indexed (key arcs) (length arcs) index

pub record Queue (next list : List ℕ) (entry : Entry) : Type 0 where
  pub records : entry.n ≤ max_records
  pub at_below : entry.at < max_records
  pub next_long : length next ≡ max_records
  pub list_long : length list ≡ max_records
  pub listed : Listed list entry.queued entry.n next

pub record Numbers (n : ℕ) (work seen : List ℕ) : Type 0 where
  pub records : n ≤ max_records
  pub work_long : n * 64 ≤ length work
  pub seen_long : length seen ≡ max_records

pub record Between (ends : Ends) (work : List ℕ) : Type 0 where
  pub records : ends.n ≤ max_records
  pub from_below : ends.from < ends.n
  pub to_below : ends.to < ends.n
  pub work_long : ends.n * 64 ≤ length work

-- what the functions ask
pub record CrossAsked (key : List ℕ → ℕ → ℕ) (arcs index enter seen next list : List ℕ) (entry : Entry) : Type 0 where
  pub by_index : ByIndex key arcs index
  pub enter_long : length enter ≡ 64
  pub seen_long : length seen ≡ max_records
  pub queue : Queue next list entry

pub record ChooseAsked (arcs index enter work seen : List ℕ) (aim : Aim) : Type 0 where
  pub by_index : ByIndex arc_from arcs index
  pub enter_long : length enter ≡ 64
  pub numbers : Numbers aim.n work seen
  pub at_below : aim.at < max_records

pub record WalkAsked (follow enter work seen : List ℕ) (route : Route) (out : List ℕ) : Type 0 where
  pub tables : Tables follow enter
  pub numbers : Numbers route.n work seen
  pub from_below : route.from < route.n
  pub fits : route.steps ≤ length out

-- the records of the list are below some n
pub record CommitAsked (work seen next list records masks : List ℕ) : Type 0 where
  pub next_long : length next ≡ max_records
  pub records_long : length records ≡ max_records
  pub masks_long : length masks ≡ max_records
  pub list_few : length list ≤ max_records
  pub n : ℕ
  pub n_most : n ≤ max_records
  pub work_long : n * 64 ≤ length work
  pub seen_long : n ≤ length seen
  pub listed : Listed list (length list) n next

pub record LevelsAsked (predecessors enter : List ℕ) (ends : Ends) (work seen : List ℕ) : Type 0 where
  pub tables : Tables predecessors enter
  pub between : Between ends work
  pub seen_long : length seen ≡ max_records
  pub none_seen : Zero seen

pub record SearchAsked (arcs follow predecessors enter : List ℕ) (ends : Ends) (work : List ℕ) : Type 0 where
  pub few : length arcs ≤ max_arcs
  pub tables : Tables follow enter
  pub predecessors_long : length predecessors ≡ 64
  pub between : Between ends work

pub record ReachAsked (arcs follow enter : List ℕ) (n from : ℕ) : Type 0 where
  pub few : length arcs ≤ max_arcs
  pub tables : Tables follow enter
  pub records : n ≤ max_records
  pub from_below : from < n

pub record ChainAsked (links follow predecessors enter : List ℕ) (ends : Ends) (work : List ℕ) : Type 0 where
  pub few_links : length links ≤ max_links
  pub tables : Tables follow enter
  pub predecessors_long : length predecessors ≡ 64
  pub between : Between ends work

pub record EndsAsked (links follow enter : List ℕ) (n from : ℕ) : Type 0 where
  pub few_links : length links ≤ max_links
  pub tables : Tables follow enter
  pub records : n ≤ max_records
  pub from_below : from < n
