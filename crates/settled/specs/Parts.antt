-- What a program, and the tags of its settled schema, must fulfil for the schema to be accepted.
use Rattle.std.specs.Prelude.{ℕ, Bool, List, ◌++◌}
use Rattle.std.specs.List.{AllByRecursion}
use Rattle.asn_base.specs.declared.tag.Tag.{Tag}
use Rattle.asn_base.specs.Types.{a_set, a_choice, Alternative, Component, Resolved, Is}
use Rattle.asn_base.specs.Tags.{AllTagged, AllHaveDistinctTags, HasFewTags}
use Rattle.asn_base.specs.Schemas.{HasTag, TagsAscend}
use Rattle.names.specs.Names.{IsApart}
use Rattle.resolve.specs.Program.{Program, IsWhole}
use Rattle.resolve.specs.Sound.{IsSoundProgram}
use Rattle.additions.specs.Additions.{KeepAdditions}
use Rattle.spelled.specs.Spelled.{AreSpelled}
use Rattle.settled.specs.Settled.{AreTypedDefaults}

-- what a program must fulfil, apart from its tags
pub record IsChecked (p : Program) : Type 0 where
  -- the program is linked, and no module imports a name that it assigns
  pub whole : IsWhole p
  pub apart : IsApart p.modules
  -- the program's lists and the names in them fulfil their rules
  pub sound : IsSoundProgram p
  pub spelled : AreSpelled p.types
  -- what follows markers fulfils its rules
  pub additions : KeepAdditions p.types
  -- each DEFAULT is a value of its type
  pub defaults : AreTypedDefaults p

-- The rules on the tags of a schema. Each type but a CHOICE has one, first tags distinguish members, and a type has at
-- most six. Each component of a SET and each alternative of a CHOICE has one of its own. The alternatives after a
-- marker are in the order of their tags (X.680, clauses 25.6, 27.3, 29.3 and 31.2).
pub record HasKeptTags (s : List Resolved) : Type 0 where
  pub tagged : AllTagged s
  pub distinct_tags : AllHaveDistinctTags s
  pub few : HasFewTags s
  pub components : (i : ℕ) (tags : List Tag) (marker : Bool) (cs : List Component) →
      Is s i tags (a_set marker cs) →
      AllByRecursion (λ c. HasTag s c.type) cs
  pub alternatives : (i : ℕ) (tags : List Tag) (marker : Bool) (root more : List Alternative) →
      Is s i tags (a_choice root marker more) →
      AllByRecursion (λ a. HasTag s a.type) (root ++ more)
  pub ascending : (i : ℕ) (tags : List Tag) (marker : Bool) (root more : List Alternative) →
      Is s i tags (a_choice root marker more) →
      TagsAscend s more
