-- What a message brings into a kept state: an identity behind the others, or the lock.
use Rattle.std.specs.Prelude.{ℕ, [], ◌∷◌, ◌++◌, Some, Result, Ok, Err, if◌then◌else◌}
use Rattle.picky_agent_state.specs.declared.keep.KeepError.{KeepError}
use Rattle.picky_agent_state.specs.declared.keep.KeepError.TheVariants as errors
use Rattle.picky_agent_state.specs.Kept.{Kept}
use Rattle.picky_agent_state.specs.Request.{Request, Identities, Sign, Add, Remove, RemoveAll, Lock, Unlock, Unfit}
use Rattle.picky_agent_state.specs.Rows.{is_full}

-- how long such a message may be
abbrev pub keep_limit : ℕ
keep_limit = 1073741824

-- what is kept then, or why the message brings nothing
abbrev pub kept_with : Kept → Request → Result Kept KeepError
kept_with kept (Add added) =
    if is_full kept then Err errors.TooMany else Ok (record kept { identities = kept.identities ++ added ∷ [] })
kept_with kept (Lock pass) = Ok (record kept { pass = Some pass })
kept_with kept Identities = Err errors.NotKept
kept_with kept (Sign asked) = Err errors.NotKept
kept_with kept (Remove key) = Err errors.NotKept
kept_with kept RemoveAll = Err errors.NotKept
kept_with kept (Unlock pass) = Err errors.NotKept
kept_with kept Unfit = Err errors.NotKept
