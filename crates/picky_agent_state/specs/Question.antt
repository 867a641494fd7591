-- What has to be signed before a message is answered.
use Rattle.std.specs.Prelude.{◌≡◌, false, Some}
use Rattle.picky_keys.specs.Key.{kind_of}
use Rattle.picky_agent_state.specs.declared.question.Question.{Question}
use Rattle.picky_agent_state.specs.Kept.{Kept, is_locked}
use Rattle.picky_agent_state.specs.Held.{IsAt}
use Rattle.picky_agent_state.specs.Request.{Request, Identities, Sign, Add, Remove, RemoveAll, Lock, Unlock, Unfit, SignRequest}
use Rattle.picky_agent_state.specs.Signing.{way_for}

-- the identity that signs, the algorithm, the format and the message
pub record IsQuestion (kept : Kept) (asked : SignRequest) (question : Question) : Type 0 where
  pub unlocked : is_locked kept ≡ false
  pub is_at : IsAt asked.key kept.identities question.place
  pub is_way : way_for (kind_of asked.key) asked.flags ≡ Some (question.algorithm, question.format)
  pub is_message : question.message.now ≡ asked.message

abbrev pub IsQuestionOn : Kept → Request → Question → Type 0
IsQuestionOn kept (Sign asked) question = IsQuestion kept asked question
IsQuestionOn kept request question = ⊥
