use Rattle.reference_host.proofs.state_sound.state_is_sound.Goals as goal

pub returns : goal.returns
returns c =
    let g = c.args.state.now.setting in
    let h = c.args.state.now.holding in
    c.views_are_sound.ensures g.policy g.trees g.table h.folder h.live.handles (record {
      words = c.policy_has_words.ensures;
      sorted = c.requires.setting.trees;
      holds = c.requires.setting.holds;
      contents = λ node. record { bytes = c.contents_are_bytes.ensures.small node; count = c.contents_are_bytes.ensures.count node };
      files = λ number. record { bytes = c.contents_are_bytes-2.ensures.small number; count = c.contents_are_bytes-2.ensures.count number };
      numbers = c.contents_are_bytes-2.ensures.files;
      nodes = c.requires.holding.nodes;
      open_files = c.requires.holding.held_there;
    })
