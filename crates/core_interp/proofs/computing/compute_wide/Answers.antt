use Rattle.core_interp.proofs.Totals.{same_code}
use Rattle.core_interp.proofs.computing.compute_wide.Goals as goal

pub returns-in-80 : goal.returns-in-80
returns-in-80 c = same_code _ _ _ _ _ c.in-80.is c.code.ensures.value c.one.ensures

pub returns-in-81 : goal.returns-in-81
returns-in-81 c = same_code _ _ _ _ _ c.in-81.is c.code.ensures.value c.two.ensures

pub returns-in-82 : goal.returns-in-82
returns-in-82 c = same_code _ _ _ _ _ c.in-82.is c.code.ensures.value c.two-in-82.ensures

pub returns-in-83 : goal.returns-in-83
returns-in-83 c = same_code _ _ _ _ _ c.in-83.is c.code.ensures.value c.two-in-83.ensures

pub returns-in-84 : goal.returns-in-84
returns-in-84 c = same_code _ _ _ _ _ c.in-84.is c.code.ensures.value c.two-in-84.ensures

pub returns-in-85 : goal.returns-in-85
returns-in-85 c = same_code _ _ _ _ _ c.in-85.is c.code.ensures.value c.two-in-85.ensures

pub returns-in-86 : goal.returns-in-86
returns-in-86 c = same_code _ _ _ _ _ c.in-86.is c.code.ensures.value c.two-in-86.ensures

pub returns-in-87 : goal.returns-in-87
returns-in-87 c = same_code _ _ _ _ _ c.in-87.is c.code.ensures.value c.two-in-87.ensures

pub returns-in-88 : goal.returns-in-88
returns-in-88 c = same_code _ _ _ _ _ c.in-88.is c.code.ensures.value c.two-in-88.ensures

pub returns-in-89 : goal.returns-in-89
returns-in-89 c = same_code _ _ _ _ _ c.in-89.is c.code.ensures.value c.two-in-89.ensures

pub returns-in-90 : goal.returns-in-90
returns-in-90 c = same_code _ _ _ _ _ c.in-90.is c.code.ensures.value c.two-in-90.ensures

pub returns-in-124 : goal.returns-in-124
returns-in-124 c = same_code _ _ _ _ _ c.in-124.is c.code.ensures.value c.two-in-124.ensures

pub returns-in-125 : goal.returns-in-125
returns-in-125 c = same_code _ _ _ _ _ c.in-125.is c.code.ensures.value c.two-in-125.ensures

pub returns-in-126 : goal.returns-in-126
returns-in-126 c = same_code _ _ _ _ _ c.in-126.is c.code.ensures.value c.two-in-126.ensures

pub returns-in-131 : goal.returns-in-131
returns-in-131 c = same_code _ _ _ _ _ c.in-131.is c.code.ensures.value c.two-in-131.ensures

pub returns-in-132 : goal.returns-in-132
returns-in-132 c = same_code _ _ _ _ _ c.in-132.is c.code.ensures.value c.two-in-132.ensures

pub returns-in-133 : goal.returns-in-133
returns-in-133 c = same_code _ _ _ _ _ c.in-133.is c.code.ensures.value c.two-in-133.ensures

pub returns-in-134 : goal.returns-in-134
returns-in-134 c = same_code _ _ _ _ _ c.in-134.is c.code.ensures.value c.two-in-134.ensures

pub returns-in-135 : goal.returns-in-135
returns-in-135 c = same_code _ _ _ _ _ c.in-135.is c.code.ensures.value c.two-in-135.ensures

pub returns-in-136 : goal.returns-in-136
returns-in-136 c = same_code _ _ _ _ _ c.in-136.is c.code.ensures.value c.two-in-136.ensures

pub returns-in-137 : goal.returns-in-137
returns-in-137 c = same_code _ _ _ _ _ c.in-137.is c.code.ensures.value c.two-in-137.ensures

pub returns-in-138 : goal.returns-in-138
returns-in-138 c = same_code _ _ _ _ _ c.in-138.is c.code.ensures.value c.two-in-138.ensures

pub returns-in-167 : goal.returns-in-167
returns-in-167 c = same_code _ _ _ _ _ c.in-167.is c.code.ensures.value c.one-in-167.ensures

pub returns-in-172 : goal.returns-in-172
returns-in-172 c = same_code _ _ _ _ _ c.in-172.is c.code.ensures.value c.one-in-172.ensures

pub returns-in-173 : goal.returns-in-173
returns-in-173 c = same_code _ _ _ _ _ c.in-173.is c.code.ensures.value c.one-in-173.ensures
