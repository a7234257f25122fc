use Rattle.std.proofs.Common.{◌∙◌, inl, inr}
use Rattle.scm_lines.specs.Words.{words_of}
use Rattle.scm_lines.proofs.FormsFit.{step_fits}
use Rattle.scm_lines.specs.declared.keywords.Verb.TheVariants as verb
use Rattle.scm_lines.proofs.explain.why_step.Goals as goal

pub returns-in-Open-clause-exact : goal.returns-in-Open-clause-exact
returns-in-Open-clause-exact c = elim c.in-Open.is [
  | inl is ↦ rw is (c.why_words.ensures.exact ∙ step_fits c.args.version verb.Open (words_of c.args.bytes.now))
  | inr others ↦ elim others [
    | inl is ↦ rw is (c.why_words.ensures.exact ∙ step_fits c.args.version verb.Fork (words_of c.args.bytes.now))
    | inr is ↦ rw is (c.why_words.ensures.exact ∙ step_fits c.args.version verb.Exit (words_of c.args.bytes.now))
  ]
]

pub returns-in-Dup-clause-exact : goal.returns-in-Dup-clause-exact
returns-in-Dup-clause-exact c = elim c.in-Dup.is [
  | inl is ↦ rw is (c.why_words-in-Dup.ensures.exact ∙ step_fits c.args.version verb.Dup (words_of c.args.bytes.now))
  | inr others ↦ elim others [
    | inl is ↦ rw is (c.why_words-in-Dup.ensures.exact ∙ step_fits c.args.version verb.Close (words_of c.args.bytes.now))
    | inr others ↦ elim others [
      | inl is ↦ rw is (c.why_words-in-Dup.ensures.exact ∙ step_fits c.args.version verb.Accept (words_of c.args.bytes.now))
      | inr others ↦ elim others [
        | inl is ↦ rw is (c.why_words-in-Dup.ensures.exact ∙ step_fits c.args.version verb.Limit (words_of c.args.bytes.now))
        | inr is ↦ rw is (c.why_words-in-Dup.ensures.exact ∙ step_fits c.args.version verb.Unconnect (words_of c.args.bytes.now))
      ]
    ]
  ]
]

pub returns-in-Dup2-clause-exact : goal.returns-in-Dup2-clause-exact
returns-in-Dup2-clause-exact c = elim c.in-Dup2.is [
  | inl is ↦ rw is (c.why_words-in-Dup2.ensures.exact ∙ step_fits c.args.version verb.Dup2 (words_of c.args.bytes.now))
  | inr is ↦ rw is (c.why_words-in-Dup2.ensures.exact ∙ step_fits c.args.version verb.Listen (words_of c.args.bytes.now))
]

pub returns-in-Pair-clause-exact : goal.returns-in-Pair-clause-exact
returns-in-Pair-clause-exact c = elim c.in-Pair.is [
  | inl is ↦ rw is (c.why_words-in-Pair.ensures.exact ∙ step_fits c.args.version verb.Pair (words_of c.args.bytes.now))
  | inr is ↦ rw is (c.why_words-in-Pair.ensures.exact ∙ step_fits c.args.version verb.Socket (words_of c.args.bytes.now))
]

pub returns-in-Bind-clause-exact : goal.returns-in-Bind-clause-exact
returns-in-Bind-clause-exact c = elim c.in-Bind.is [
  | inl is ↦ rw is (c.why_words-in-Bind.ensures.exact ∙ step_fits c.args.version verb.Bind (words_of c.args.bytes.now))
  | inr is ↦ rw is (c.why_words-in-Bind.ensures.exact ∙ step_fits c.args.version verb.Connect (words_of c.args.bytes.now))
]

pub returns-in-Send-clause-exact : goal.returns-in-Send-clause-exact
returns-in-Send-clause-exact c =
    rw c.in-Send.is (c.why_words-in-Send.ensures.exact
    ∙ step_fits c.args.version verb.Send (words_of c.args.bytes.now))

pub returns-in-Recv-clause-exact : goal.returns-in-Recv-clause-exact
returns-in-Recv-clause-exact c = elim c.in-Recv.is [
  | inl is ↦ rw is (c.why_words-in-Recv.ensures.exact ∙ step_fits c.args.version verb.Recv (words_of c.args.bytes.now))
  | inr is ↦ rw is (c.why_words-in-Recv.ensures.exact ∙ step_fits c.args.version verb.Peek (words_of c.args.bytes.now))
]

pub returns-in-Shutdown-clause-exact : goal.returns-in-Shutdown-clause-exact
returns-in-Shutdown-clause-exact c =
    rw c.in-Shutdown.is (c.why_words-in-Shutdown.ensures.exact
    ∙ step_fits c.args.version verb.Shutdown (words_of c.args.bytes.now))
